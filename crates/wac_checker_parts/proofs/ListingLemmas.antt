-- What is listed of two sides and of two entries, one part after another.
use Rattle.std.proofs.Common.{◌≡◌, ◌≢◌, ◌≤◌, ◌<◌, ◌+◌, ◌^◌, ◌==◌, ◌&&◌, ◌⊎◌, inl, inr, ℕ, List, [], ◌∷◌, Bool, true, false, Option, Some, None, Ok, Err, is_some, slice_get, refl, ap, sym, subst, subst₂, ◌∙◌, arith}
use Rattle.std.proofs.lemmas.Grind.{common_steps}
use Rattle.std.specs.Prelude.{Contains, IsErrAnd}
use Rattle.std.specs.Option.{option_to_list}
use Rattle.std.proofs.lemmas.Option.{slice_get_within}
use Rattle.std.proofs.lemmas.List.Elements.{Contains-append_left, Contains-push, Contains-push_cases}
use Rattle.wac_model.specs.ValueTree.{ValueTree, ValueLabel, FuncTree, list, option, fixed_size_list, stream, future}
use Rattle.wac_model.specs.ItemTree.{Kind, Leaf, item, leaf, func}
use Rattle.wac_model.proofs.ItemOrder.{leaf_fits}
use Rattle.wac_component.specs.Id.{Id}
use Rattle.wac_component.specs.Collection.{Collection, DefinedContent, FuncContent, alias_of}
use Rattle.wac_component.specs.Height.{height, keys_height}
use Rattle.wac_component.specs.Key.{Stands, defined_key, defined_keys, func_key, func_keys, value_keys}
use Rattle.wac_component.specs.Tree.{value_tree, content_tree, func_tree, func_content_tree, IsCompound, IsResolved}
use Rattle.wac_component.specs.declared.items.ValueType.{ValueType}
use Rattle.wac_component.specs.declared.items.ValueType.TheVariants.{Defined}
use Rattle.wac_mismatch.specs.Place.{Side, value_side, item_side, place, absent, by_check, expected_of}
use Rattle.wac_mismatch.specs.Difference.{DifferIn}
use Rattle.wac_mismatch.specs.Holds.{HoldsOfSides}
use Rattle.wac_mismatch.specs.declared.fault.Fault.TheVariants as fault
use Rattle.wac_checker_parts.specs.Content.{composed_side, payload_side}
use Rattle.wac_component.proofs.Members.{keys_height-member}
use Rattle.wac_mismatch.specs.declared.difference.Difference.TheVariants as difference
use Rattle.wac_mismatch.specs.declared.check.SubtypeCheck.{SubtypeCheck}
use Rattle.wac_mismatch.specs.declared.check.SubtypeCheck.TheVariants.{Covariant, Contravariant}
use Rattle.wac_mismatch.specs.declared.fault.Fault.{Fault}
use Rattle.wac_checker_parts.specs.Parts.{AreAt, IsIndex, SamePart, SameBefore, side_parts}
use Rattle.wac_checker_parts.specs.Pairs.{AreOf, Entries, DefinedTypes, Funcs, Interfaces, Worlds, Modules, Below, EntriesFit, HaveAt, IsFitting, entries_by, entries_of, flag_of, id_in, left_of, right_of}
use Rattle.wac_checker_parts.specs.Listing.{AllFitBy, AreComposed, AreEntriesNamed, AreMembersOf, AreNamedUnless, ArePartsOf, AreValuesNamed, DifferAtIn, IsLastTurn, IsMemberOf, IsNamed, IsPut, IsSideTurn, IsTurn, IsTurnTo, Named, Turn, func_side, members_height}
use Rattle.wac_mismatch.specs.declared.difference.Difference.{Difference}
use Rattle.wac_checker_parts.specs.declared.parts.EntryPair.{EntryPair}
use Rattle.wac_checker_parts.specs.declared.parts.PairPart.{PairPart}
use Rattle.wac_checker_parts.specs.declared.parts.PairSort.{PairSort}
use Rattle.wac_checker_parts.specs.declared.parts.PairSort.TheVariants as sort
use Rattle.wac_checker_parts.specs.declared.parts.Halt.{Halt}
use Rattle.wac_checker_parts.specs.declared.parts.Halt.TheVariants as halt
use Rattle.wac_checker_parts.proofs.CountLemmas.{last_or_before}
use Rattle.wac_mismatch.proofs.DifferenceLemmas.{differ_refutes}
use Rattle.wac_checker_parts.proofs.ItemPartLemmas.{id_here}
use Rattle.wac_checker_parts.proofs.PairLemmas.{entries_of_defined, entries_of_func, leaf_one, parts_one, trees_one}
use Rattle.wac_checker_parts.proofs.ItemLemmas.{equal_leaves}
use Rattle.wac_checker_parts.proofs.PartLemmas.{have_below, one_tree, part_of_values}

-- ---- pairs that fit, told from a side

module _ (l r : Collection) (i j : ℕ) (s : PairSort) where
  fit_by : (v w : Bool) → v ≡ w → EntriesFit (left_of (left_of l r w) (right_of l r w) v) (right_of (left_of l r w) (right_of l r w) v) (entries_by s (id_in (left_of (left_of l r w) (right_of l r w) v) i) (id_in (right_of (left_of l r w) (right_of l r w) v) j)) → EntriesFit l r (entries_by s (id_in l i) (id_in r j))
  fit_by false false e h = h
  fit_by false true e h = absurd (cc)
  fit_by true false e h = absurd (cc)
  fit_by true true e h = h

pub fit_here : (l r : Collection) (w : Bool) (p : EntryPair) → p.swapped ≡ w → IsFitting (left_of l r w) (right_of l r w) p → EntriesFit l r (entries_of l r p)
fit_here l r w p e h = fit_by l r p.left p.right p.sort p.swapped w e h

pub flag_same : (w : Bool) → w ≡ flag_of w false
flag_same true = refl
flag_same false = refl

-- ---- a pair that is put on the list

pub put_keeps : (i : ℕ) (p : EntryPair) (ms ns : List PairPart) → IsPut i p ms ns → (q : PairPart) → Contains ms q → Contains ns q
put_keeps i p ms ns (inl h) q m = subst (λ (xs : List PairPart). Contains xs q) (sym h.0) m
put_keeps i p ms ns (inr h) q m = subst (λ (xs : List PairPart). Contains xs q) (sym h) (Contains-append_left ms ((record { pair = p; index = i }) ∷ []) q m)

pub put_named : (i : ℕ) (p : EntryPair) (ms ns : List PairPart) → IsPut i p ms ns → IsNamed ns p
put_named i p ms ns (inl h) = subst (λ (xs : List PairPart). IsNamed xs p) (sym h.0) h.1
put_named i p ms ns (inr h) = subst (λ (xs : List PairPart). IsNamed xs p) (sym h) (record { pair = p; index = i }, Contains-push ms (record { pair = p; index = i }), refl)

pub put_cases : (i : ℕ) (p : EntryPair) (ms ns : List PairPart) → IsPut i p ms ns → (q : PairPart) → Contains ns q → Contains ms q ⊎ (record { pair = p; index = i } ≡ q)
put_cases i p ms ns (inl h) q m = inl (subst (λ (xs : List PairPart). Contains xs q) h.0 m)
put_cases i p ms ns (inr h) q m = Contains-push_cases ms (record { pair = p; index = i }) q (subst (λ (xs : List PairPart). Contains xs q) h m)

-- a defined type that is no alias
pub resolved_here : (c : Collection) (d : Id) (e : DefinedContent) → slice_get c.defined d.index ≡ Some e → value_tree c (Defined d) ≡ content_tree (value_tree c) e → ((of : ValueType) → e ≢ alias_of of) → IsCompound (content_tree (value_tree c) e) → IsResolved c (Defined d)
resolved_here c d e entry tree none compound = ((λ of is. (let both : Some e ≡ Some (alias_of of) = sym entry ∙ is in let one : e ≡ alias_of of = cc in none of one)), rw tree compound)

-- two entries are one, or they are named
pub entries_put : (l r : Collection) (i a b : ℕ) (t : Bool) (p : EntryPair) (ms ns : List PairPart) (k : Named) → (l.number ≡ r.number → l ≡ r) → t ≡ (l.number == r.number && a == b) → p.left ≡ a → p.right ≡ b → AreNamedUnless t i p ms ns k → AreEntriesNamed l r i p ms ns k
entries_put l r i a b t p ms ns (Ok true) one test left right h = elim h [
  | inl same ↦ inl (one (let both = test_true t (l.number == r.number && a == b) test same.0 in grind (arith, common_steps)), left ∙ (let both = test_true t (l.number == r.number && a == b) test same.0 in grind (arith, common_steps)) ∙ sym right, same.1)
  | inr put ↦ inr put
]
  where
    test_true : (s u : Bool) → s ≡ u → s ≡ true → u ≡ true
    test_true s u e h = sym e ∙ h
entries_put l r i a b t p ms ns (Ok false) one test left right h = elim h [ ]
entries_put l r i a b t p ms ns (Err e) one test left right h = tt

-- ids of one index in one collection are one
pub ids_one : (l r : Collection) (x y : Id) → x.number ≡ l.number → y.number ≡ r.number → l ≡ r → x.index ≡ y.index → x ≡ y
ids_one l r x y left right same index =
    let numbers : x.number ≡ y.number = left ∙ ap (λ (c : Collection). c.number) same ∙ sym right in
    λ i. record { number = numbers i; index = index i }

-- two defined types are one, or they are named
pub values_put : (l r : Collection) (w : Bool) (i : ℕ) (x y : Id) (ms ns : List PairPart) (k : Named) → Stands l (defined_key x) → Stands r (defined_key y) → IsResolved l (Defined x) → IsResolved r (Defined y) → AreEntriesNamed l r i (record { left = x.index; right = y.index; sort = sort.Defined; swapped = w }) ms ns k → AreValuesNamed l r w i (Defined x) (Defined y) ms ns k
values_put l r w i x y ms ns (Ok true) h k resx resy named' = elim named' [
  | inl same ↦ inl (same.2, (let ids : x ≡ y = ids_one l r x y h.0 k.0 same.0 same.1 in rw (same.0, ids) refl))
  | inr put ↦ inr (record { left = x.index; right = y.index; sort = sort.Defined; swapped = w }, refl, subst₂ (λ (u v : Id). AreOf l r (Defined x) (Defined y) (DefinedTypes u v)) (sym (id_here l x h.0)) (sym (id_here r y k.0)) (refl, refl, (h, k, (resx, resy)), omega arith, omega arith), put)
]
values_put l r w i x y ms ns (Ok false) h k resx resy named' = elim named' [ ]
values_put l r w i x y ms ns (Err e) h k resx resy named' = tt

-- what is said of the types that two are aliases of is said of them
pub values_as : (l r : Collection) (w : Bool) (i : ℕ) (v u x y : ValueType) (ms ns : List PairPart) (k : Named) → value_tree l v ≡ value_tree l x → value_tree r u ≡ value_tree r y → keys_height l (value_keys v) ≤ keys_height l (value_keys x) → keys_height r (value_keys u) ≤ keys_height r (value_keys y) → AreValuesNamed l r w i v u ms ns k → AreValuesNamed l r w i x y ms ns k
values_as l r w i v u x y ms ns (Ok true) left right left_lower right_lower h = elim h [
  | inl one ↦ inl (one.0, sym left ∙ one.1 ∙ right)
  | inr put ↦ inr (put.0, put.1, of_as (entries_of l r put.0) put.2, put.3)
]
  where
    of_as : (e : Entries) → AreOf l r v u e → AreOf l r x y e
    of_as (DefinedTypes a b) of = (sym left ∙ of.0, sym right ∙ of.1, of.2, omega (arith, of.3), omega (arith, of.4))
    of_as (Funcs a b) of = elim of [ ]
    of_as (Interfaces a b) of = elim of [ ]
    of_as (Worlds a b) of = elim of [ ]
    of_as (Modules a b) of = elim of [ ]
values_as l r w i v u x y ms ns (Ok false) left right left_lower right_lower h = rw (← left, ← right) h
values_as l r w i v u x y ms ns (Err e) left right left_lower right_lower h = tt

-- ---- members of two sides

pub none_listed : (l r : Collection) (w : Bool) (s t : Side) (m n : ℕ) (ms : List PairPart) → ms ≡ [] → AreMembersOf l r w s t m n ms
none_listed l r w s t m n ms e q c = let none = subst (λ (xs : List PairPart). Contains xs q) e c in absurd (omega (arith, none.1))

-- nothing is listed yet
pub turn_from : (l r : Collection) (w : Bool) (s t : Side) (m n : ℕ) (ms : List PairPart) → ms ≡ [] → IsTurnTo l r w s t m n 0 ms (Ok tt)
turn_from l r w s t m n ms e = (none_listed l r w s t m n ms e, λ all j b. absurd (omega (arith, b)))

-- all is listed
pub turn_done : (l r : Collection) (w : Bool) (s t : Side) (m n i : ℕ) (ms : List PairPart) (k : Turn) → IsTurnTo l r w s t m n i ms k → (SameBefore s t i → s ≡ t) → IsSideTurn l r w s t m n ms k
turn_done l r w s t m n i ms (Ok u) h done = (h.0, λ all. done (h.1 all))
turn_done l r w s t m n i ms (Err (halt.Apart x)) h done = h
turn_done l r w s t m n i ms (Err (halt.PartApart j b x)) h done = h
turn_done l r w s t m n i ms (Err halt.Modules) h done = h
turn_done l r w s t m n i ms (Err halt.Memory) h done = tt

-- a turn that isn't the end is that of all
pub turn_other : (l r : Collection) (w : Bool) (s t : Side) (m n i : ℕ) (ms : List PairPart) (k : Turn) → (k ≡ Ok tt → ⊥) → IsTurnTo l r w s t m n i ms k → IsSideTurn l r w s t m n ms k
turn_other l r w s t m n i ms (Ok u) other h = absurd (other refl)
turn_other l r w s t m n i ms (Err (halt.Apart x)) other h = h
turn_other l r w s t m n i ms (Err (halt.PartApart j b x)) other h = h
turn_other l r w s t m n i ms (Err halt.Modules) other h = h
turn_other l r w s t m n i ms (Err halt.Memory) other h = tt

-- and is that up to any place
pub turn_at : (l r : Collection) (w : Bool) (s t : Side) (m n i j : ℕ) (ms : List PairPart) (k : Turn) → (k ≡ Ok tt → ⊥) → IsTurnTo l r w s t m n i ms k → IsTurnTo l r w s t m n j ms k
turn_at l r w s t m n i j ms (Ok u) other h = absurd (other refl)
turn_at l r w s t m n i j ms (Err e) other h = h

-- what `?` returns is what was found
pub halted : (r k : Turn) (e : Halt) → IsErrAnd r (λ x. x ≡ e) → k ≡ Err e → r ≡ k
halted (Ok u) k e h is = elim h [ ]
halted (Err x) k e h is = ap Err h ∙ sym is

pub not_whole : (k : Turn) (e : Halt) → k ≡ Err e → k ≡ Ok tt → ⊥
not_whole k e is whole = absurd (cc (is, whole))

-- a part that is the same needs no pair
pub turn_same : (l r : Collection) (w : Bool) (s t : Side) (m n i : ℕ) (ms : List PairPart) → SamePart s t i → IsTurnTo l r w s t m n i ms (Ok tt) → IsTurnTo l r w s t m n (i + 1) ms (Ok tt)
turn_same l r w s t m n i ms here h = (h.0, λ all j b. elim (last_or_before j i (omega (arith, b))) [ inl e ↦ subst (λ (k : ℕ). SamePart s t k) (sym e) here | inr before ↦ h.1 all j before ])

module _ (l r : Collection) (w : Bool) (s t : Side) (m n i : ℕ) (v x : ValueType) (ms ns : List PairPart)
    (room : i + 1 < 2 ^ 64) (at : AreAt s t i (value_tree l v) (value_tree r x)) (left_below : keys_height l (value_keys v) < m) (right_below : keys_height r (value_keys x) < n) where
  member_here : (p : EntryPair) → p.swapped ≡ w → AreOf l r v x (entries_of l r p) → IsMemberOf l r w s t m n (record { pair = p; index = i })
  member_here p e of = let found = part_of_values l r s t m n i v x room at left_below right_below (Below (record { entries = entries_of l r p; swapped = false })) (refl, of) in (found.0, e, found.2)

  same_trees : (e : Entries) → AreOf l r v x e → EntriesFit l r e → value_tree l v ≡ value_tree r x
  same_trees (DefinedTypes a b) of fits = of.0 ∙ fits item ∙ sym of.1
  same_trees (Funcs a b) of fits = elim of [ ]
  same_trees (Interfaces a b) of fits = elim of [ ]
  same_trees (Worlds a b) of fits = elim of [ ]
  same_trees (Modules a b) of fits = elim of [ ]

  same_part : value_tree l v ≡ value_tree r x → SamePart s t i
  same_part h = at.1 ∙ ap (λ (u : ValueTree). Some (at.0, Some u)) h ∙ sym at.2

  -- one more part is named
  turn_next : AreValuesNamed l r w i v x ms ns (Ok true) → IsTurnTo l r w s t m n i ms (Ok tt) → IsTurnTo l r w s t m n (i + 1) ns (Ok tt)
  turn_next named' h = elim named' [
    | inl same ↦ rw same.0 (turn_same l r w s t m n i ms (same_part same.1) h)
    | inr put ↦ (
      (λ q c. elim (put_cases i put.0 ms ns put.3 q c) [ inl old ↦ h.0 q old | inr e ↦ subst (λ (y : PairPart). IsMemberOf l r w s t m n y) e (member_here put.0 put.1 put.2) ]),
      (λ all.
          let there = put_named i put.0 ms ns put.3 in
          let fits = fit_here l r w put.0 put.1 (subst (λ (p : EntryPair). IsFitting (left_of l r w) (right_of l r w) p) there.2 (all there.0 there.1)) in
          let before : AllFitBy l r w ms = λ q c. all q (put_keeps i put.0 ms ns put.3 q c) in
          (turn_same l r w s t m n i ms (same_part (same_trees (entries_of l r put.0) put.2 fits)) h).1 before),
    )
  ]

  part_apart : (d : Difference) → DifferIn d (value_side (value_tree l v)) (value_side (value_tree r x)) → value_tree l v ≢ value_tree r x → DifferAtIn i d s t × (s ≢ t)
  part_apart d differ ne = (
    (λ c f g is fault. (place c (value_side (value_tree l v)) (value_side (value_tree r x)), at.3 c f is, differ c g fault)),
    (λ same. ne (parts_one s t i (value_tree l v) (value_tree r x) at same)),
  )

  index_here : IsIndex s i
  index_here = (slice_get_within (side_parts s) i (at.0, Some (value_tree l v)) at.1, room)

  -- the last parts
  pub turn_last : (k : Turn) → IsLastTurn l r w i v x ms ns k → IsTurnTo l r w s t m n i ms (Ok tt) → IsTurnTo l r w s t m n (i + 1) ns k
  turn_last (Ok u) last h = turn_next last h
  turn_last (Err (halt.Apart d)) last h = elim last [ ]
  turn_last (Err (halt.PartApart j b d)) last h = let here = part_apart d last.3 last.4 in rw (last.0, last.1, last.2) (h.0, refl, index_here, here.0, here.1)
  turn_last (Err halt.Modules) last h = elim last [ ]
  turn_last (Err halt.Memory) last h = tt

-- ---- of two defined types

module _ (l r : Collection) (w : Bool) (a b : Id) (e f : DefinedContent) (ms : List PairPart)
    (left_tree : value_tree l (Defined a) ≡ content_tree (value_tree l) e) (right_tree : value_tree r (Defined b) ≡ content_tree (value_tree r) f)
    (left_lower : keys_height l (defined_keys e) < height l (defined_key a)) (right_lower : keys_height r (defined_keys f) < height r (defined_key b)) where
  defined_parts : AreMembersOf l r w (value_side (content_tree (value_tree l) e)) (value_side (content_tree (value_tree r) f)) (keys_height l (defined_keys e) + 1) (keys_height r (defined_keys f) + 1) ms → ArePartsOf l r w (DefinedTypes a b) ms
  defined_parts h q c =
      let here = rw (← left_tree, ← right_tree) at (h q c) in
      let lower = have_below l r (value_side (value_tree l (Defined a))) (value_side (value_tree r (Defined b))) (keys_height l (defined_keys e) + 1) (keys_height r (defined_keys f) + 1) (height l (defined_key a)) (height r (defined_key b)) q.index (omega arith) (omega arith) (entries_of l r q.pair) here.2 in
      let part = entries_of_defined l r a b q.index (Below (record { entries = entries_of l r q.pair; swapped = false })) (here.0, refl, lower) in
      (false, here.1 ∙ flag_same w, part.0, part.1)

  pub defined_turn : (k : Turn) → IsSideTurn l r w (value_side (content_tree (value_tree l) e)) (value_side (content_tree (value_tree r) f)) (keys_height l (defined_keys e) + 1) (keys_height r (defined_keys f) + 1) ms k → IsTurn l r w (DefinedTypes a b) ms k
  defined_turn (Ok u) h = (defined_parts h.0, λ all k. left_tree ∙ trees_one (content_tree (value_tree l) e) (content_tree (value_tree r) f) (h.1 all) ∙ sym right_tree)
  defined_turn (Err (halt.Apart x)) h = (defined_parts h.0, (λ c f is k. rw (left_tree, right_tree) (h.1 c f is)), (λ fit. differ_refutes x (value_side (content_tree (value_tree l) e)) (value_side (content_tree (value_tree r) f)) h.1 (sym left_tree ∙ fit item ∙ right_tree)))
  defined_turn (Err (halt.PartApart i s x)) h = (
    defined_parts h.0,
    rw left_tree h.2,
    (λ c f g is fault k. rw (left_tree, right_tree) (h.3 c f g (rw left_tree at is) (rw h.1 at fault))),
    (λ fit. h.4 (ap value_side (sym left_tree ∙ fit item ∙ right_tree))),
  )
  defined_turn (Err halt.Modules) h = elim h [ ]
  defined_turn (Err halt.Memory) h = tt

-- ---- of two functions

module _ (l r : Collection) (w : Bool) (a b : Id) (e f : FuncContent) (ms : List PairPart)
    (left_tree : func_tree l a ≡ func_content_tree l e) (right_tree : func_tree r b ≡ func_content_tree r f)
    (left_lower : keys_height l (func_keys e) < height l (func_key a)) (right_lower : keys_height r (func_keys f) < height r (func_key b)) where
  func_parts : ((k : Kind) → AreMembersOf l r w (func_side k l e) (func_side k r f) (keys_height l (func_keys e) + 1) (keys_height r (func_keys f) + 1) ms) → ArePartsOf l r w (Funcs a b) ms
  func_parts h q c =
      let below : (k : Kind) → IsIndex (item_side (leaf k (func (func_tree l a)))) q.index × HaveAt l r (item_side (leaf k (func (func_tree l a)))) (item_side (leaf k (func (func_tree r b)))) (height l (func_key a)) (height r (func_key b)) q.index (entries_of l r q.pair) = λ k.
      let here = subst₂ (λ (x y : FuncTree). IsMemberOf l r w (item_side (leaf k (func x))) (item_side (leaf k (func y))) (keys_height l (func_keys e) + 1) (keys_height r (func_keys f) + 1) q) (sym left_tree) (sym right_tree) (h k q c) in
      (here.0, have_below l r (item_side (leaf k (func (func_tree l a)))) (item_side (leaf k (func (func_tree r b)))) (keys_height l (func_keys e) + 1) (keys_height r (func_keys f) + 1) (height l (func_key a)) (height r (func_key b)) q.index (omega arith) (omega arith) (entries_of l r q.pair) here.2) in
      let part = entries_of_func l r a b q.index (Below (record { entries = entries_of l r q.pair; swapped = false })) (λ k. ((below k).0, refl, (below k).1)) in
      (false, (h item q c).1 ∙ flag_same w, part.0, part.1)

  one_func : EntriesFit l r (Funcs a b) → (k : Kind) → func_side k l e ≡ func_side k r f
  one_func fit k = let same = leaf_fits (rw (left_tree, right_tree) at (fit k)) in ap (λ (x : Leaf). item_side (leaf k x)) same

  pub func_turn : (k : Turn) → ((j : Kind) → IsSideTurn l r w (func_side j l e) (func_side j r f) (keys_height l (func_keys e) + 1) (keys_height r (func_keys f) + 1) ms k) → IsTurn l r w (Funcs a b) ms k
  func_turn (Ok u) h = (func_parts (λ j. (h j).0), λ all j. rw (left_tree, right_tree) (equal_leaves j (func (func_content_tree l e)) (func (func_content_tree r f)) (leaf_one j (func (func_content_tree l e)) (func (func_content_tree r f)) ((h j).1 all))))
  func_turn (Err (halt.Apart x)) h = (func_parts (λ j. (h j).0), (λ c g is j. rw (left_tree, right_tree) ((h j).1 c g is)), (λ fit. differ_refutes x (func_side item l e) (func_side item r f) (h item).1 (rw (left_tree, right_tree) at (fit item))))
  func_turn (Err (halt.PartApart i s x)) h = (
    func_parts (λ j. (h j).0),
    rw left_tree (h item).2,
    (λ c g y is fault j. rw (left_tree, right_tree) ((h j).3 c g y (rw left_tree at is) (rw (h item).1 at fault))),
    (λ fit. (h item).4 (one_func fit item)),
  )
  func_turn (Err halt.Modules) h = absurd (h item)
  func_turn (Err halt.Memory) h = tt

-- ---- of value types with one part

module _ (l r : Collection) (w : Bool) (a b : ValueLabel) (v x : ValueType) (ms ns : List PairPart) (none : ms ≡ [])
    (at : AreAt (composed_side l a (v ∷ [])) (composed_side r b (x ∷ [])) 0 (value_tree l v) (value_tree r x)) (done : SameBefore (composed_side l a (v ∷ [])) (composed_side r b (x ∷ [])) 1 → composed_side l a (v ∷ []) ≡ composed_side r b (x ∷ [])) where
  single_turn : (k : Turn) → IsLastTurn l r w 0 v x ms ns k → AreComposed l r w a (v ∷ []) b (x ∷ []) ns k
  single_turn k last =
      let left = keys_height-member l (v ∷ []) 0 v refl in
      let right = keys_height-member r (x ∷ []) 0 x refl in
      turn_done l r w (composed_side l a (v ∷ [])) (composed_side r b (x ∷ [])) (members_height l (v ∷ [])) (members_height r (x ∷ [])) 1 ns k
      (turn_last l r w (composed_side l a (v ∷ [])) (composed_side r b (x ∷ [])) (members_height l (v ∷ [])) (members_height r (x ∷ [])) 0 v x ms ns (omega arith) at (omega (arith, left)) (omega (arith, right)) k last (turn_from l r w (composed_side l a (v ∷ [])) (composed_side r b (x ∷ [])) (members_height l (v ∷ [])) (members_height r (x ∷ [])) ms none))
      done

module _ (l r : Collection) (w : Bool) (v x : ValueType) (ms ns : List PairPart) (none : ms ≡ []) (k : Turn) (last : IsLastTurn l r w 0 v x ms ns k) where
  pub list_turn : AreComposed l r w list (v ∷ []) list (x ∷ []) ns k
  list_turn = single_turn l r w list list v x ms ns none ([], refl, refl, λ check f is. rw is (record { alike = tt; same_check = refl; left = refl; right = refl })) (λ same. let e = one_tree (value_tree l v) (value_tree r x) (same 0 (omega arith)) in rw e refl) k last

  pub option_turn : AreComposed l r w option (v ∷ []) option (x ∷ []) ns k
  option_turn = single_turn l r w option option v x ms ns none ([], refl, refl, λ check f is. rw is (record { alike = tt; same_check = refl; left = refl; right = refl })) (λ same. let e = one_tree (value_tree l v) (value_tree r x) (same 0 (omega arith)) in rw e refl) k last

  pub stream_turn : AreComposed l r w (stream true) (v ∷ []) (stream true) (x ∷ []) ns k
  stream_turn = single_turn l r w (stream true) (stream true) v x ms ns none ([], refl, refl, λ check f is. rw is (record { alike = tt; same_check = refl; left = refl; right = refl })) (λ same. let e = one_tree (value_tree l v) (value_tree r x) (same 0 (omega arith)) in rw e refl) k last

  pub future_turn : AreComposed l r w (future true) (v ∷ []) (future true) (x ∷ []) ns k
  future_turn = single_turn l r w (future true) (future true) v x ms ns none ([], refl, refl, λ check f is. rw is (record { alike = tt; same_check = refl; left = refl; right = refl })) (λ same. let e = one_tree (value_tree l v) (value_tree r x) (same 0 (omega arith)) in rw e refl) k last

  pub fixed_turn : (n : ℕ) → AreComposed l r w (fixed_size_list n) (v ∷ []) (fixed_size_list n) (x ∷ []) ns k
  fixed_turn n = single_turn l r w (fixed_size_list n) (fixed_size_list n) v x ms ns none ([], refl, refl, λ check f is. rw is (record { alike = tt; same_check = refl; left = refl; right = refl })) (λ same. let e = one_tree (value_tree l v) (value_tree r x) (same 0 (omega arith)) in rw e refl) k last

-- ---- of payloads, one of which isn't there

payload_by : (l r : Collection) (c : SubtypeCheck) (o p : Option ValueType) (f : Fault) → is_some o ≢ is_some p → f ≡ fault.Payload (expected_of c (is_some o) (is_some p)) → by_check c (HoldsOfSides f) (payload_side l o) (payload_side r p)
payload_by l r c None None f ne is = absurd (ne refl)
payload_by l r c (Some v) (Some x) f ne is = absurd (ne refl)
payload_by l r Covariant None (Some x) f ne is = rw is refl
payload_by l r Contravariant None (Some x) f ne is = rw is refl
payload_by l r Covariant (Some v) None f ne is = rw is refl
payload_by l r Contravariant (Some v) None f ne is = rw is refl

module _ (l r : Collection) (w : Bool) (ms : List PairPart) (none : ms ≡ []) where
  pub stream_apart : (o p : Option ValueType) → is_some o ≢ is_some p → AreComposed l r w (stream (is_some o)) (option_to_list o) (stream (is_some p)) (option_to_list p) ms (Err (halt.PartApart 0 false (difference.Payload (is_some o) (is_some p))))
  stream_apart None None ne = absurd (ne refl)
  stream_apart (Some v) (Some x) ne = absurd (ne refl)
  stream_apart None (Some x) ne = (none_listed l r w (composed_side l (stream false) []) (composed_side r (stream true) (x ∷ [])) (members_height l []) (members_height r (x ∷ [])) ms none, refl, (omega arith, omega arith), (λ c f g is fault. (place c absent (value_side (value_tree r x)), rw is (record { alike = tt; same_check = refl; left = refl; right = refl }), inl (payload_by l r c None (Some x) g ne fault))), (λ e. absurd (cc (e))))
  stream_apart (Some v) None ne = (none_listed l r w (composed_side l (stream true) (v ∷ [])) (composed_side r (stream false) []) (members_height l (v ∷ [])) (members_height r []) ms none, refl, (omega arith, omega arith), (λ c f g is fault. (place c (value_side (value_tree l v)) absent, rw is (record { alike = tt; same_check = refl; left = refl; right = refl }), inl (payload_by l r c (Some v) None g ne fault))), (λ e. absurd (cc (e))))

  pub future_apart : (o p : Option ValueType) → is_some o ≢ is_some p → AreComposed l r w (future (is_some o)) (option_to_list o) (future (is_some p)) (option_to_list p) ms (Err (halt.PartApart 0 false (difference.Payload (is_some o) (is_some p))))
  future_apart None None ne = absurd (ne refl)
  future_apart (Some v) (Some x) ne = absurd (ne refl)
  future_apart None (Some x) ne = (none_listed l r w (composed_side l (future false) []) (composed_side r (future true) (x ∷ [])) (members_height l []) (members_height r (x ∷ [])) ms none, refl, (omega arith, omega arith), (λ c f g is fault. (place c absent (value_side (value_tree r x)), rw is (record { alike = tt; same_check = refl; left = refl; right = refl }), inl (payload_by l r c None (Some x) g ne fault))), (λ e. absurd (cc (e))))
  future_apart (Some v) None ne = (none_listed l r w (composed_side l (future true) (v ∷ [])) (composed_side r (future false) []) (members_height l (v ∷ [])) (members_height r []) ms none, refl, (omega arith, omega arith), (λ c f g is fault. (place c (value_side (value_tree l v)) absent, rw is (record { alike = tt; same_check = refl; left = refl; right = refl }), inl (payload_by l r c (Some v) None g ne fault))), (λ e. absurd (cc (e))))
