-- What putting an entry in the place of another gives.
use Rattle.std.proofs.Common.{◌≡◌, ◌≢◌, ℕ, set, length, slice_get, ◌⊎◌, inl, inr, refl, ap, sym, ◌∙◌, subst, arith}
use Rattle.std.proofs.lemmas.List.{map-set, length-set}
use Rattle.wac_component.specs.Id.{Id}
use Rattle.wac_component.specs.Collection.{Collection}
use Rattle.wac_component.specs.Key.{Key, Sort, defined_sort, resource_sort, func_sort, interface_sort, world_sort, module_sort, Entry, defined_entry, resource_entry, func_entry, interface_entry, world_entry, module_entry, entries, entry_at, entry_keys, Stands, AllStand}
use Rattle.wac_component.specs.Sound.{entry_count, IsSound}
use Rattle.wac_component.specs.Replacing.{replaced, NamesReach, Replaces}
use Rattle.wac_component.proofs.Added.{sort_of}
use Rattle.wac_component.proofs.Keys.{Key-parts}
use Rattle.wac_component.proofs.Lists.{slice_get-set_same, slice_get-set_other}
use Rattle.wac_component.proofs.Replaced.{Puts, IsSound-Puts, Replaces-Puts}

other_lists : (c : Collection) (i : ℕ) (e : Entry) (t : Sort) → (t ≡ sort_of e) ⊎ (entries (replaced c i e) t ≡ entries c t)
other_lists c i (defined_entry e) defined_sort = inl refl
other_lists c i (defined_entry e) t = inr refl
other_lists c i (resource_entry e) resource_sort = inl refl
other_lists c i (resource_entry e) t = inr refl
other_lists c i (func_entry e) func_sort = inl refl
other_lists c i (func_entry e) t = inr refl
other_lists c i (interface_entry e) interface_sort = inl refl
other_lists c i (interface_entry e) t = inr refl
other_lists c i (world_entry e) world_sort = inl refl
other_lists c i (world_entry e) t = inr refl
other_lists c i (module_entry e) module_sort = inl refl
other_lists c i (module_entry e) t = inr refl

own_list : (c : Collection) (i : ℕ) (e : Entry) → entries (replaced c i e) (sort_of e) ≡ set (entries c (sort_of e)) i e
own_list c i (defined_entry e) = map-set defined_entry c.defined i e
own_list c i (resource_entry e) = map-set resource_entry c.resources i e
own_list c i (func_entry e) = map-set func_entry c.funcs i e
own_list c i (interface_entry e) = map-set interface_entry c.interfaces i e
own_list c i (world_entry e) = map-set world_entry c.worlds i e
own_list c i (module_entry e) = map-set module_entry c.modules i e

same_count : (c : Collection) (i : ℕ) (e : Entry) → entry_count (replaced c i e) ≡ entry_count c
same_count c i (defined_entry e) = omega (arith, length-set c.defined i e)
same_count c i (resource_entry e) = omega (arith, length-set c.resources i e)
same_count c i (func_entry e) = omega (arith, length-set c.funcs i e)
same_count c i (interface_entry e) = omega (arith, length-set c.interfaces i e)
same_count c i (world_entry e) = omega (arith, length-set c.worlds i e)
same_count c i (module_entry e) = omega (arith, length-set c.modules i e)

same_number : (c : Collection) (i : ℕ) (e : Entry) → (replaced c i e).number ≡ c.number
same_number c i (defined_entry e) = refl
same_number c i (resource_entry e) = refl
same_number c i (func_entry e) = refl
same_number c i (interface_entry e) = refl
same_number c i (world_entry e) = refl
same_number c i (module_entry e) = refl

-- the key of an id of the entry's sort
abbrev pub key_for : Entry → Id → Key
key_for e p = record { sort = sort_of e; id = p }

module _ (c : Collection) (p : Id) (e : Entry) (st : Stands c (key_for e p)) where
  list_of : (t : Sort) → t ≡ sort_of e → entries (replaced c p.index e) t ≡ set (entries c t) p.index e
  list_of t same = subst (λ u. entries (replaced c p.index e) u ≡ set (entries c u) p.index e) (sym same) (own_list c p.index e)

  same_length : (t : Sort) → length (entries (replaced c p.index e) t) ≡ length (entries c t)
  same_length t = elim (other_lists c p.index e t) [ inl same ↦ ap length (list_of t same) ∙ length-set (entries c t) p.index e | inr same ↦ ap length same ]

  other_entry : (j : Key) → Stands c j → j ≢ key_for e p → entry_at (replaced c p.index e) j ≡ entry_at c j
  other_entry j h ne = elim (other_lists c p.index e j.sort) [ inl same ↦ of_sort same | inr same ↦ ap (λ es. slice_get es j.id.index) same ]
    where
      of_sort : j.sort ≡ sort_of e → entry_at (replaced c p.index e) j ≡ entry_at c j
      of_sort same = ap (λ es. slice_get es j.id.index) (list_of j.sort same) ∙ slice_get-set_other (entries c j.sort) p.index j.id.index e (λ i. ne (Key-parts j (key_for e p) same (h.0 ∙ sym st.0) i))

  pub Puts-replaced : Puts c (replaced c p.index e) (key_for e p) e
  Puts-replaced = record {
    number = same_number c p.index e;
    lengths = same_length;
    count = same_count c p.index e;
    entry = ap (λ es. slice_get es p.index) (own_list c p.index e) ∙ slice_get-set_same (entries c (sort_of e)) p.index e st.1;
    others = other_entry;
  }

  pub IsSound-replaced : IsSound c → AllStand c (entry_keys e) → ¬ NamesReach c (entry_keys e) (key_for e p) → IsSound (replaced c p.index e)
  IsSound-replaced s named none = IsSound-Puts c (replaced c p.index e) (key_for e p) e Puts-replaced s named none

  pub Replaces-replaced : IsSound c → Replaces c (replaced c p.index e) (key_for e p)
  Replaces-replaced s = Replaces-Puts c (replaced c p.index e) (key_for e p) e Puts-replaced s

-- the same, of a collection under another name
pub replaces_after : (c now : Collection) (p : Id) (e : Entry) → c ≡ now → IsSound c → Stands now (key_for e p) → Replaces now (replaced c p.index e) (key_for e p)
replaces_after c now p e same s st =
    subst (λ x. Replaces x (replaced c p.index e) (key_for e p)) same (Replaces-replaced c p e (subst (λ x. Stands x (key_for e p)) (sym same) st) s)
