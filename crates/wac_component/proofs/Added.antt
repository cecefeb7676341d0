-- A collection with one entry more, which names what stood, is sound and extends the one before.
use Rattle.std.proofs.Common.{◌≡◌, ◌<◌, ℕ, suc, ◌+◌, List, [], ◌∷◌, ◌++◌, Some, length, slice_get, ◌⊎◌, inl, inr, Bool, true, refl, ap, sym, ◌∙◌, arith, length-append, subst, zero}
use Rattle.std.proofs.lemmas.List.{map-append}
use Rattle.std.specs.List.{list_all}
use Rattle.wac_component.specs.Collection.{Collection}
use Rattle.wac_component.specs.Key.{Key, Sort, defined_sort, resource_sort, func_sort, interface_sort, world_sort, module_sort, Entry, defined_entry, resource_entry, func_entry, interface_entry, world_entry, module_entry, entries, entry_at, entry_keys, next, Stands, AllStand}
use Rattle.wac_component.specs.Sound.{walks_end, entry_count, IsSound}
use Rattle.wac_component.specs.Growth.{BeginsWith, Extends, with_entry}
use Rattle.wac_component.proofs.Keys.{Each-map, all_from-Each}
use Rattle.wac_component.proofs.Lists.{slice_get-append, slice_get-last, BeginsWith-refl}
use Rattle.wac_component.proofs.Unfolded.{Keeps, ends_more}
use Rattle.wac_component.proofs.Kept.{height-kept, item_tree-kept}

-- d is c with this entry last in one list
pub record Adds (c d : Collection) (s : Sort) (e : Entry) : Type 0 where
  pub number : d.number ≡ c.number
  pub list : entries d s ≡ entries c s ++ e ∷ []
  pub others : (t : Sort) → (t ≡ s) ⊎ (entries d t ≡ entries c t)
  pub count : entry_count d ≡ suc (entry_count c)

abbrev pub sort_of : Entry → Sort
sort_of (defined_entry e) = defined_sort
sort_of (resource_entry e) = resource_sort
sort_of (func_entry e) = func_sort
sort_of (interface_entry e) = interface_sort
sort_of (world_entry e) = world_sort
sort_of (module_entry e) = module_sort

others_than_defined : (c : Collection) (e : Entry) (t : Sort) → (t ≡ sort_of e) ⊎ (entries (with_entry c e) t ≡ entries c t)
others_than_defined c (defined_entry e) defined_sort = inl refl
others_than_defined c (defined_entry e) t = inr refl
others_than_defined c (resource_entry e) resource_sort = inl refl
others_than_defined c (resource_entry e) t = inr refl
others_than_defined c (func_entry e) func_sort = inl refl
others_than_defined c (func_entry e) t = inr refl
others_than_defined c (interface_entry e) interface_sort = inl refl
others_than_defined c (interface_entry e) t = inr refl
others_than_defined c (world_entry e) world_sort = inl refl
others_than_defined c (world_entry e) t = inr refl
others_than_defined c (module_entry e) module_sort = inl refl
others_than_defined c (module_entry e) t = inr refl

with_entry-list : (c : Collection) (e : Entry) → entries (with_entry c e) (sort_of e) ≡ entries c (sort_of e) ++ e ∷ []
with_entry-list c (defined_entry e) = map-append defined_entry c.defined (e ∷ [])
with_entry-list c (resource_entry e) = map-append resource_entry c.resources (e ∷ [])
with_entry-list c (func_entry e) = map-append func_entry c.funcs (e ∷ [])
with_entry-list c (interface_entry e) = map-append interface_entry c.interfaces (e ∷ [])
with_entry-list c (world_entry e) = map-append world_entry c.worlds (e ∷ [])
with_entry-list c (module_entry e) = map-append module_entry c.modules (e ∷ [])

with_entry-count : (c : Collection) (e : Entry) → entry_count (with_entry c e) ≡ suc (entry_count c)
with_entry-count c (defined_entry e) = omega (arith, length-append c.defined (e ∷ []))
with_entry-count c (resource_entry e) = omega (arith, length-append c.resources (e ∷ []))
with_entry-count c (func_entry e) = omega (arith, length-append c.funcs (e ∷ []))
with_entry-count c (interface_entry e) = omega (arith, length-append c.interfaces (e ∷ []))
with_entry-count c (world_entry e) = omega (arith, length-append c.worlds (e ∷ []))
with_entry-count c (module_entry e) = omega (arith, length-append c.modules (e ∷ []))

with_entry-number : (c : Collection) (e : Entry) → (with_entry c e).number ≡ c.number
with_entry-number c (defined_entry e) = refl
with_entry-number c (resource_entry e) = refl
with_entry-number c (func_entry e) = refl
with_entry-number c (interface_entry e) = refl
with_entry-number c (world_entry e) = refl
with_entry-number c (module_entry e) = refl

pub Adds-with_entry : (c : Collection) (e : Entry) → Adds c (with_entry c e) (sort_of e) e
Adds-with_entry c e = record {
  number = with_entry-number c e;
  list = with_entry-list c e;
  others = others_than_defined c e;
  count = with_entry-count c e;
}

-- two tests that agree on what stands agree on a list of it
all_same : (c : Collection) (f g : Key → Bool) → ((k : Key) → Stands c k → f k ≡ g k) → (ks : List Key) → AllStand c ks → list_all f ks ≡ list_all g ks
all_same c f g same [] h = refl
all_same c f g same (k ∷ ks) h = rw (same k h.0, all_same c f g same ks h.1) refl

module _ (c d : Collection) (s : Sort) (e : Entry) (adds : Adds c d s e) where
  lists_begin : (t : Sort) → BeginsWith (entries d t) (entries c t)
  lists_begin t = elim (adds.others t) [ inl same ↦ subst (λ u. BeginsWith (entries d u) (entries c u)) (sym same) (e ∷ [], adds.list) | inr same ↦ rw same (BeginsWith-refl (entries c t)) ]

  longer : (t : Sort) (i : ℕ) → i < length (entries c t) → i < length (entries d t)
  longer t i h = let b = lists_begin t in rw b.1 (omega (arith, length-append (entries c t) b.0))

  stands_on : (k : Key) → Stands c k → Stands d k
  stands_on k h = (h.0 ∙ sym adds.number, longer k.sort k.id.index h.1)

  pub all_stand_on : (ks : List Key) → AllStand c ks → AllStand d ks
  all_stand_on = Each-map (Stands c) (Stands d) stands_on

  entry_same : (k : Key) → Stands c k → entry_at d k ≡ entry_at c k
  entry_same k h = let b = lists_begin k.sort in ap (λ es. slice_get es k.id.index) b.1 ∙ slice_get-append (entries c k.sort) b.0 k.id.index h.1

  last_or_less : (n i : ℕ) → i < n + 1 → (i < n) ⊎ (i ≡ n)
  last_or_less n i h = grind arith

  -- what stands in d stood in c, or is the new one
  new_or_old : (k : Key) → Stands d k → Stands c k ⊎ (entry_at d k ≡ Some e)
  new_or_old k h = elim (adds.others k.sort) [ inl same ↦ at_sort same | inr same ↦ inl (h.0 ∙ adds.number, rw same at h.1) ]
    where
      at_sort : k.sort ≡ s → Stands c k ⊎ (entry_at d k ≡ Some e)
      at_sort same =
          let long : entries d k.sort ≡ entries c k.sort ++ e ∷ [] = subst (λ t. entries d t ≡ entries c t ++ e ∷ []) (sym same) adds.list in
          let below : k.id.index < length (entries c k.sort) + 1 = let g = h.1 in let l = length-append (entries c k.sort) (e ∷ []) in omega (arith, ap length long) in
          elim (last_or_less (length (entries c k.sort)) k.id.index below) [
            | inl lt ↦ inl (h.0 ∙ adds.number, lt)
            | inr is ↦ inr (ap (λ es. slice_get es k.id.index) long ∙ ap (λ i. slice_get (entries c k.sort ++ e ∷ []) i) is ∙ slice_get-last (entries c k.sort) e)
          ]

  module _ (sound : IsSound c) where
    pub keeps_what_stood : Keeps c d (Stands c)
    keeps_what_stood = record { closed = sound.standing; same_entry = entry_same; ending = sound.ending; added = 1; count = adds.count }

    -- the walks in d from what stood in c are those in c
    walks_same : (n : ℕ) (k : Key) → Stands c k → walks_end n d k ≡ walks_end n c k
    walks_same zero k h = refl
    walks_same (suc n) k h = rw (entry_same k h) (all_same c (walks_end n d) (walks_end n c) (walks_same n) (next c k) (sound.standing k h))

    pub Extends-Adds : Extends c d
    Extends-Adds = record {
      number = adds.number;
      lists = lists_begin;
      standing = stands_on;
      same_entry = entry_same;
      heights = height-kept c d (Stands c) keeps_what_stood;
      trees = item_tree-kept c d (Stands c) keeps_what_stood;
    }

    old_ends : (k : Key) → Stands c k → walks_end (entry_count c) d k ≡ true
    old_ends k h = walks_same (entry_count c) k h ∙ sound.ending k h

    all_end : (ks : List Key) → AllStand c ks → list_all (walks_end (entry_count c) d) ks ≡ true
    all_end ks h = all_from-Each (walks_end (entry_count c) d) ks (Each-map (Stands c) (λ k. walks_end (entry_count c) d k ≡ true) old_ends ks h)

    module _ (named : AllStand c (entry_keys e)) where
      entry_stands : (k : Key) → Stands c k ⊎ (entry_at d k ≡ Some e) → AllStand d (next d k)
      entry_stands k (inl old) = rw (entry_same k old) (all_stand_on (next c k) (sound.standing k old))
      entry_stands k (inr is) = rw is (all_stand_on (entry_keys e) named)

      walk_ends : (k : Key) → Stands c k ⊎ (entry_at d k ≡ Some e) → walks_end (suc (entry_count c)) d k ≡ true
      walk_ends k (inl old) = ends_more d (entry_count c) k (old_ends k old)
      walk_ends k (inr is) = rw is (all_end (entry_keys e) named)

      pub IsSound-Adds : IsSound d
      IsSound-Adds = record {
        standing = λ k h. entry_stands k (new_or_old k h);
        ending = λ k h. rw adds.count (walk_ends k (new_or_old k h));
      }
