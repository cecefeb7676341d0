-- What was built stays built while more is, and runs one after another.
use Rattle.std.proofs.Common.{◌≡◌, refl, ap, sym, subst, ◌∙◌, ◌⊎◌, inl, inr, List, [], ◌∷◌, ◌++◌, arith, Some, Result, Ok, Err, IfOk}
use Rattle.std.specs.Result.{IsErr}
use Rattle.std.proofs.lemmas.List.Elements.{All-weaker, Contains-append_left, Contains-append_right, Contains-append_cases}
use Rattle.wac_model.specs.Text.{Text}
use Rattle.wac_model.specs.ItemTree.{ItemTree, Kind, item, type_item}
use Rattle.wac_model.specs.Order.{Fits}
use Rattle.wac_bounds.specs.MeetIn.{IsMeetIn}
use Rattle.wac_component.specs.Id.{Id}
use Rattle.wac_component.specs.Collection.{Collection}
use Rattle.wac_component.specs.Growth.{Extends}
use Rattle.wac_component.specs.Key.{Key, Sort, defined_sort, resource_sort, func_sort, interface_sort, world_sort, module_sort, Entry, entry_at, Stands, AllStand, item_keys}
use Rattle.wac_component.specs.Laws.{HasLeavesOf}
use Rattle.wac_component.specs.Sound.{IsSound}
use Rattle.wac_component.specs.Tree.{item_tree}
use Rattle.wac_component.specs.declared.items.ItemKind.{ItemKind}
use Rattle.wac_component.proofs.Extended.{Extends-trans, Extends-refl}
use Rattle.wac_component.proofs.Among.{Contains-first, Contains-cases}
use Rattle.wac_component.proofs.Keys.{Key-discrete}
use Rattle.wac_merge.specs.Bounded.{AreIncomparable, IsMetAs, IsJoinedAs}
use Rattle.wac_merge.specs.Built.{Origins, IsBuilt, first, second, fresh, IsBuiltAt, of_first, of_second, of_both, AreBuilt, IsEntryFrom, of_interfaces, of_worlds, of_modules, IsMadeOf, IsAddedBuilt, OnlyBuilds}
use Rattle.wac_merge.specs.Items.{entry_item, item_of, ExternKinds}
use Rattle.wac_merge.specs.Memo.{Made, first_key, second_key, bound_key, IsBoundOf}
use Rattle.wac_merge.specs.Runs.{IsMadeOn, IsNoted, AreMadeOn, FromBuilt, Runs}
use Rattle.wac_merge.specs.Told.{LacksOnly}
use Rattle.wac_merge.specs.declared.memo.Untold.{Untold}
use Rattle.wac_merge.specs.declared.memo.Untold.TheVariants.{Memory, Lacks}
use Rattle.wac_merge.specs.declared.memo.Asked.{Asked}
use Rattle.wac_merge.specs.declared.memo.Bound.{Bound}
use Rattle.wac_merge.specs.declared.memo.Bound.TheVariants.{Meet, Join}
use Rattle.wac_merge.specs.declared.memo.BoundId.{BoundId}
use Rattle.wac_component.proofs.Last.{IsLast}
use Rattle.wac_merge.proofs.BoundLemmas.{bound_before, bound_after}

-- an item that names an entry stands where the entry does
pub entry_item_stands : (c : Collection) (k : Kind) (m : Key) → Stands c m → AllStand c (item_keys (entry_item k m))
entry_item_stands c k m h = go k m.sort m.id h
  where
    go : (k : Kind) (s : Sort) (p : Id) → Stands c (record { sort = s; id = p }) → AllStand c (item_keys (item_of k s p))
    go item defined_sort p h = (h, tt)
    go item resource_sort p h = (h, tt)
    go item func_sort p h = (h, tt)
    go item interface_sort p h = (h, tt)
    go item world_sort p h = (h, tt)
    go item module_sort p h = (h, tt)
    go type_item defined_sort p h = (h, tt)
    go type_item resource_sort p h = (h, tt)
    go type_item func_sort p h = (h, tt)
    go type_item interface_sort p h = (h, tt)
    go type_item world_sort p h = (h, tt)
    go type_item module_sort p h = (h, tt)

-- the origins of what stands in d are the same
abbrev AgreeOn : Collection → Origins → Origins → Type 0
AgreeOn d o q = (m : Key) → Stands d m → q m ≡ o m

-- from d to e, with origins o and q that agree on d
module _ (c d e : Collection) (o q : Origins) (grown : Extends d e) (agree : AgreeOn d o q) where
  pub IsBuilt-grown : (a b y : ItemKind) → IsBuilt c d o a b y → IsBuilt c e q a b y
  IsBuilt-grown a b y (first h) = first h
  IsBuilt-grown a b y (second h) = second h
  IsBuilt-grown a b y (fresh k m names stands new a_is b_is apart) =
      fresh k m names (grown.standing m stands) new (a_is ∙ ap (λ (p : Key × Key). entry_item k p.0) (sym (agree m stands))) (b_is ∙ ap (λ (p : Key × Key). entry_item k p.1) (sym (agree m stands))) apart

  IsBuiltAt-grown : (es ts : ExternKinds) (n : Text) (y : ItemKind) → IsBuiltAt c d o es ts n y → IsBuiltAt c e q es ts n y
  IsBuiltAt-grown es ts n y (of_first h) = of_first h
  IsBuiltAt-grown es ts n y (of_second h) = of_second h
  IsBuiltAt-grown es ts n y (of_both {a = a} {b = b} f g h) = of_both f g (IsBuilt-grown a b y h)

  pub AreBuilt-grown : (es ts ms : ExternKinds) → AreBuilt c d o es ts ms → AreBuilt c e q es ts ms
  AreBuilt-grown es ts ms h =
      All-weaker (λ (x : Text × ItemKind). IsBuiltAt c d o es ts x.0 x.1) (λ x. IsBuiltAt c e q es ts x.0 x.1) (λ x. IsBuiltAt-grown es ts x.0 x.1) ms h

  pub IsEntryFrom-grown : (a b x : Entry) → IsEntryFrom c d o a b x → IsEntryFrom c e q a b x
  IsEntryFrom-grown a b x (of_interfaces h) = of_interfaces record { no_identifier = h.no_identifier; uses = h.uses; exports = AreBuilt-grown _ _ _ h.exports; names = h.names }
  IsEntryFrom-grown a b x (of_worlds h) = of_worlds record { no_identifier = h.no_identifier; uses = h.uses; imports = AreBuilt-grown _ _ _ h.imports; exports = AreBuilt-grown _ _ _ h.exports; names = h.names }
  IsEntryFrom-grown a b x (of_modules h) = of_modules h

  -- a bound of two entries, at a key of d
  bound_grown : (R : ItemTree → ItemTree → Type 0) (m : Key) → Stands d m
      → ((k : Kind) → IsMeetIn R (item_tree c (entry_item k (o m).0)) (item_tree c (entry_item k (o m).1)) (Some (item_tree d (entry_item k m))))
      → (k : Kind) → IsMeetIn R (item_tree c (entry_item k (q m).0)) (item_tree c (entry_item k (q m).1)) (Some (item_tree e (entry_item k m)))
  bound_grown R m stands h k =
      subst (λ (p : Key × Key). IsMeetIn R (item_tree c (entry_item k p.0)) (item_tree c (entry_item k p.1)) (Some (item_tree e (entry_item k m)))) (sym (agree m stands))
      (bound_after R d e grown (item_tree c (entry_item k (o m).0)) (item_tree c (entry_item k (o m).1)) (entry_item k m) (entry_item_stands d k m stands) (h k))

  IsAddedBuilt-grown : (m : Key) → Stands d m → IsAddedBuilt c d o m → IsAddedBuilt c e q m
  IsAddedBuilt-grown m stands h = record {
    first_stands = subst (λ (p : Key × Key). Stands c p.0) (sym (agree m stands)) h.first_stands;
    second_stands = subst (λ (p : Key × Key). Stands c p.1) (sym (agree m stands)) h.second_stands;
    first = h.first;
    second = h.second;
    self = h.self;
    first_at = ap (λ (p : Key × Key). entry_at c p.0) (agree m stands) ∙ h.first_at;
    second_at = ap (λ (p : Key × Key). entry_at c p.1) (agree m stands) ∙ h.second_at;
    self_at = grown.same_entry m stands ∙ h.self_at;
    is_from = IsEntryFrom-grown h.first h.second h.self h.is_from;
    bound = elim h.bound [ inl met ↦ inl (bound_grown Fits m stands met) | inr joined ↦ inr (bound_grown (λ s t. Fits t s) m stands joined) ];
  }

  IsMadeOn-grown : (x : Asked × BoundId) → IsMadeOn c d o x → IsMadeOn c e q x
  IsMadeOn-grown x h = record { first = h.first; second = h.second; made = (grown.standing (bound_key x.1) h.made.0, h.made.1, agree (bound_key x.1) h.made.0 ∙ h.made.2) }

  -- more that is built
  only_more : HasLeavesOf d e → ((m : Key) → Stands e m → Stands d m ⊎ IsAddedBuilt c e q m) → OnlyBuilds c d o → OnlyBuilds c e q
  only_more leaves new h = record {
    extends = Extends-trans c d e h.extends grown;
    leaves = record {
      number = leaves.number ∙ h.leaves.number;
      resources = leaves.resources ∙ h.leaves.resources;
      defined = leaves.defined ∙ h.leaves.defined;
      funcs = leaves.funcs ∙ h.leaves.funcs;
    };
    added = λ m stands. elim (new m stands) [
      | inr built ↦ inr built
      | inl stood ↦ elim (h.added m stood) [ inl before ↦ inl before | inr built ↦ inr (IsAddedBuilt-grown m stood built) ]
    ];
  }

-- nothing is built at first
pub nothing_built : (c : Collection) (o : Origins) → OnlyBuilds c c o
nothing_built c o = record {
  extends = Extends-refl c;
  leaves = record { number = refl; resources = refl; defined = refl; funcs = refl };
  added = λ m stands. inl stands;
}

-- and nothing is made
pub nothing_made : (c : Collection) (o : Origins) → AreMadeOn c c o []
nothing_made c o = record { each = λ x m. absurd (omega (arith, m.1)); all = λ m stands. inl stands }

-- a run that adds nothing
pub Runs-none : {ms ns : Made} (ks : List Key) (d e : Collection) → e ≡ d → ns ≡ ms → Runs ks d ms e ns
Runs-none ks d e same same_made = λ c o sound stand only made. rw (same, same_made) (record { origins = o; only = only; made = made })

-- nothing is said of a refused answer
pub IfOk-refused : {X E : Type 0} (r : Result X E) (P : X → Type 0) → IsErr r → IfOk r P
IfOk-refused (Ok x) P h = absurd (cc)
IfOk-refused (Err e) P h = tt

-- for other ids, from which those that it asks for follow
pub FromBuilt-from : {ms : Made} (js ks : List Key) (d : Collection) (A : Collection → Origins → Type 0) → ((c : Collection) → IsSound c → Extends c d → AllStand c js → AllStand c ks) → FromBuilt ks d ms A → FromBuilt js d ms A
FromBuilt-from js ks d A follow h = λ c o sound stand only made. h c o sound (follow c sound only.extends stand) only made

pub LacksOnly-from : (d : Collection) (js ks : List Key) → ((c : Collection) → IsSound c → Extends c d → AllStand c js → AllStand c ks) → (u : Untold) → LacksOnly d ks u → LacksOnly d js u
LacksOnly-from d js ks follow Memory h = tt
LacksOnly-from d js ks follow (Lacks a) h = λ c sound was stand. h c sound was (follow c sound was stand)

-- what is remembered stays so
noted_more : (ms ns : Made) (m : Key) → IsNoted ms m → IsNoted (ms ++ ns) m
noted_more ms ns m (x, there, is) = (x, Contains-append_left ms ns x there, is)

noted_last : (ms : Made) (x : Asked × BoundId) (m : Key) → m ≡ bound_key x.1 → IsNoted (ms ++ x ∷ []) m
noted_last ms x m is = (x, Contains-append_right ms (x ∷ []) x (Contains-first x []), sym is)

-- the origins, with that of one entry more
decided : {P : Type 0} → Dec P → Key × Key → Key × Key → Key × Key
decided (yes h) p q = p
decided (no h) p q = q

with_origin : Origins → Key → Key × Key → Origins
with_origin o k p m = decided (Key-discrete m k) p (o m)

with_origin-here : (o : Origins) (k : Key) (p : Key × Key) → with_origin o k p k ≡ p
unfolding with_origin decided
with_origin-here o k p = go (Key-discrete k k)
  where
    go : (h : Dec (k ≡ k)) → decided h p (o k) ≡ p
    go (yes e) = refl
    go (no n) = elim (n refl) [ ]

with_origin-other : (o : Origins) (k : Key) (p : Key × Key) (m : Key) → ¬ (m ≡ k) → with_origin o k p m ≡ o m
unfolding with_origin decided
with_origin-other o k p m apart = go (Key-discrete m k)
  where
    go : (h : Dec (m ≡ k)) → decided h p (o m) ≡ o m
    go (yes e) = elim (apart e) [ ]
    go (no n) = refl

-- a run that adds one entry, made of two
module _ (d e : Collection) (a : Asked) (r : BoundId) (x y entry : Entry) (A : Collection → Origins → Type 0) (grown : Extends d e) (leaves : HasLeavesOf d e) (last : IsLast d e entry (bound_key r))
    (x_at : entry_at d (first_key a.pair) ≡ Some x) (y_at : entry_at d (second_key a.pair) ≡ Some y) (is_from : (c : Collection) (o : Origins) → A c o → IsEntryFrom c d o x y entry) (bound : IsBoundOf a.bound d e a.pair (Some r)) where
  abbrev keys : List Key
  keys = first_key a.pair ∷ second_key a.pair ∷ []

  abbrev more : Origins → Origins
  more o = with_origin o (bound_key r) (first_key a.pair, second_key a.pair)

  here : (o : Origins) → more o (bound_key r) ≡ (first_key a.pair, second_key a.pair)
  here o = with_origin-here o (bound_key r) (first_key a.pair, second_key a.pair)

  agree : (o : Origins) → AgreeOn d o (more o)
  agree o m stands = with_origin-other o (bound_key r) (first_key a.pair, second_key a.pair) m (λ same. last.is_new (subst (Stands d) same stands))

  made_last : (c : Collection) (o : Origins) → AllStand c keys → Extends c d → A c o → IsAddedBuilt c e (more o) (bound_key r)
  made_last c o stand before built = record {
    first_stands = subst (λ (p : Key × Key). Stands c p.0) (sym (here o)) stand.0;
    second_stands = subst (λ (p : Key × Key). Stands c p.1) (sym (here o)) stand.1.0;
    first = x;
    second = y;
    self = entry;
    first_at = ap (λ (p : Key × Key). entry_at c p.0) (here o) ∙ sym (before.same_entry (first_key a.pair) stand.0) ∙ x_at;
    second_at = ap (λ (p : Key × Key). entry_at c p.1) (here o) ∙ sym (before.same_entry (second_key a.pair) stand.1.0) ∙ y_at;
    self_at = last.at;
    is_from = IsEntryFrom-grown c d e o (more o) grown (agree o) x y entry (is_from c o built);
    bound = go a.bound bound;
  }
    where
      bound_at : (R : ItemTree → ItemTree → Type 0) → ((j : Kind) → IsMeetIn R (item_tree d (entry_item j (first_key a.pair))) (item_tree d (entry_item j (second_key a.pair))) (Some (item_tree e (entry_item j (bound_key r)))))
          → (j : Kind) → IsMeetIn R (item_tree c (entry_item j (more o (bound_key r)).0)) (item_tree c (entry_item j (more o (bound_key r)).1)) (Some (item_tree e (entry_item j (bound_key r))))
      bound_at R h j =
          subst (λ (p : Key × Key). IsMeetIn R (item_tree c (entry_item j p.0)) (item_tree c (entry_item j p.1)) (Some (item_tree e (entry_item j (bound_key r))))) (sym (here o))
          (bound_before R c d before (entry_item j (first_key a.pair)) (entry_item j (second_key a.pair)) (entry_item_stands c j (first_key a.pair) stand.0) (entry_item_stands c j (second_key a.pair) stand.1.0) (Some (item_tree e (entry_item j (bound_key r)))) (h j))

      go : (u : Bound) → IsBoundOf u d e a.pair (Some r) → ((j : Kind) → IsMetAs c e (entry_item j (more o (bound_key r)).0) (entry_item j (more o (bound_key r)).1) (Some (entry_item j (bound_key r))))
          ⊎ ((j : Kind) → IsJoinedAs c e (entry_item j (more o (bound_key r)).0) (entry_item j (more o (bound_key r)).1) (Some (entry_item j (bound_key r))))
      go Meet h = inl (bound_at Fits h)
      go Join h = inr (bound_at (λ s t. Fits t s) h)

  -- it is remembered last
  made_more : (ns : Made) (c : Collection) (o : Origins) → AreMadeOn c d o ns → IsMadeOn c e (more o) (a, r) → AreMadeOn c e (more o) (ns ++ (a, r) ∷ [])
  made_more ns c o before now = record {
    each = λ z m. elim (Contains-append_cases ns ((a, r) ∷ []) z m) [
      | inl old ↦ IsMadeOn-grown c d e o (more o) grown (agree o) z (before.each z old)
      | inr new ↦ elim (Contains-cases z (a, r) [] new) [ inl same ↦ subst (IsMadeOn c e (more o)) same now | inr none ↦ absurd (omega (arith, none.1)) ]
    ];
    all = λ m stands. elim (last.others m stands) [
      | inl stood ↦ elim (before.all m stood) [ inl stood_first ↦ inl stood_first | inr noted ↦ inr (noted_more ns ((a, r) ∷ []) m noted) ]
      | inr same ↦ inr (noted_last ns (a, r) m same)
    ];
  }

  pub Runs-made : (ms : Made) → FromBuilt keys d ms A → Runs keys d ms e (ms ++ (a, r) ∷ [])
  Runs-made ms built = λ c o sound stand only made.
      let added = made_last c o stand only.extends (built c o sound stand only made) in
      record {
        origins = more o;
        only = only_more c d e o (more o) grown (agree o) leaves (λ m stands. elim (last.others m stands) [ inl stood ↦ inl stood | inr same ↦ inr (subst (IsAddedBuilt c e (more o)) (sym same) added) ]) only;
        made = made_more ms c o made record { first = stand.0; second = stand.1.0; made = (last.stands, λ stood. last.is_new (only.extends.standing (bound_key r) stood), here o) };
      }

-- an item that names an entry that was made of those that two items name, which don't compare
pub made_item : (c d : Collection) (o : Origins) (a b : ItemKind) (k : Kind) (x y p : Key) → a ≡ entry_item k x → b ≡ entry_item k y → AreIncomparable (item_tree c a) (item_tree c b) → IsMadeOf c d o x y p → IsBuilt c d o a b (entry_item k p)
made_item c d o a b k x y p a_is b_is apart h = fresh k p refl h.0 h.1 (a_is ∙ ap (λ (z : Key × Key). entry_item k z.0) (sym h.2)) (b_is ∙ ap (λ (z : Key × Key). entry_item k z.1) (sym h.2)) apart
