-- The parts at a place of two value types.
use Rattle.std.specs.Str.{bytes_eq}
use Rattle.std.specs.Map.{lookup}
use Rattle.std.proofs.Common.{◌+◌, ◌^◌, ◌≡◌, ◌≢◌, ◌≤◌, ◌<◌, ℕ, suc, zero, List, [], ◌∷◌, ◌++◌, length, map, true, Option, Some, None, is_some, slice_get, string_bytes, String, Global, refl, ap, sym, subst, ◌∙◌, arith}
use Rattle.std.proofs.lemmas.List.{length-map}
use Rattle.wac_mismatch.specs.declared.frame.Frame.TheVariants as frame
use Rattle.std.specs.Option.{option_map, option_to_list}
use Rattle.std.proofs.lemmas.Option.{slice_get_within}
use Rattle.wac_model.specs.Text.{Text}
use Rattle.wac_model.specs.ValueTree.{ValueTree, parts_of, tuple, map_of, record_of}
use Rattle.wac_component.specs.declared.items.ValueType.{ValueType}
use Rattle.wac_component.specs.declared.items.ValueType.TheVariants.{Defined}
use Rattle.wac_component.specs.Collection.{Collection}
use Rattle.wac_component.specs.Content.{names, types_of}
use Rattle.wac_component.specs.Height.{keys_height}
use Rattle.wac_component.specs.Key.{value_keys}
use Rattle.wac_component.specs.Tree.{value_tree}
use Rattle.std.specs.List.{flat_map}
use Rattle.wac_component.proofs.Lists.{append_nil, slice_get-map}
use Rattle.wac_mismatch.specs.Place.{Side, by_check, expected_of}
use Rattle.wac_mismatch.specs.Part.{sided}
use Rattle.wac_mismatch.specs.Steps.{IsCase, IsField}
use Rattle.wac_mismatch.specs.Holds.{HoldsOfSides}
use Rattle.wac_mismatch.specs.declared.fault.Fault.TheVariants as fault
use Rattle.wac_mismatch.specs.declared.fault.ResultPart.TheVariants as result_of
use Rattle.wac_mismatch.specs.declared.check.SubtypeCheck.TheVariants.{Covariant, Contravariant}
use Rattle.wac_mismatch.specs.declared.check.SubtypeCheck.{SubtypeCheck}
use Rattle.wac_checker_parts.specs.Content.{composed_side, variant_side, result_side, case_tree}
use Rattle.wac_checker_parts.specs.Parts.{IsFrameAt, IsIndex, side_parts, marked_parts, unnamed_parts, SamePart, SameBefore, AreAt}
use Rattle.wac_checker_parts.specs.Pairs.{AreValuesCompared, AreOptionsCompared, AreOf, HaveAt, IsValuePart, Entries, DefinedTypes, Funcs, Interfaces, Worlds, Modules, Finding, End, Same, Below}
use Rattle.wac_checker_parts.proofs.ValueLemmas.{tree_at, leads_to_field, same_items, same_records}
use Rattle.wac_checker_parts.proofs.CaseLemmas.{entry_at, leads_to_case, marks_names, same_variants}

pub pair_of : {A B : Type 0} (p q : A × B) → Some p ≡ Some q → p ≡ q
pair_of p q h = cc

-- what was found of the types of two parts is what was found of the parts
module _ (c d : Collection) (s t : Side) (m n i : ℕ) (v w : ValueType)
    (room : i + 1 < 2 ^ 64) (at : AreAt s t i (value_tree c v) (value_tree d w)) (left_below : keys_height c (value_keys v) < m) (right_below : keys_height d (value_keys w) < n) where
  have_at : (e : Entries) → AreOf c d v w e → HaveAt c d s t m n i e
  have_at (DefinedTypes x y) h =
      (subst (λ (u : ValueTree). AreAt s t i (value_tree c (Defined x)) u) h.1 (subst (λ (u : ValueTree). AreAt s t i u (value_tree d w)) h.0 at), h.2, omega (arith, h.3), omega (arith, h.4))
  have_at (Funcs x y) h = elim h [ ]
  have_at (Interfaces x y) h = elim h [ ]
  have_at (Worlds x y) h = elim h [ ]
  have_at (Modules x y) h = elim h [ ]

  pub index : IsIndex s i
  index = (slice_get_within (side_parts s) i (at.0, Some (value_tree c v)) at.1, room)

  pub part_of_values : (p : Finding) → AreValuesCompared c d v w p → IsValuePart c d s t m n i p
  part_of_values End h = elim h [ ]
  part_of_values Same h = (index, at.1 ∙ ap (λ (u : ValueTree). Some (at.0, Some u)) h ∙ sym at.2)
  part_of_values (Below q) h = (index, h.0, have_at q.entries h.1)

-- ---- tuples

module _ (f : ValueType → ValueTree) where
  unnamed : (vs : List ValueType) → unnamed_parts (parts_of (map f vs)) ≡ map (λ (v : ValueType). let q : Text × Option ValueTree = ([], Some (f v)) in q) vs
  unnamed [] = refl
  unnamed (v ∷ vs) = ap (λ (ps : List (Text × Option ValueTree)). ([], Some (f v)) ∷ ps) (unnamed vs)

  nth_type : (vs : List ValueType) (i : ℕ) (v : ValueType) → slice_get vs i ≡ Some v → slice_get (unnamed_parts (parts_of (map f vs))) i ≡ Some ([], Some (f v))
  nth_type [] i v h = absurd (cc)
  nth_type (x ∷ vs) zero v h = let same : x ≡ v = cc in rw same refl
  nth_type (x ∷ vs) (suc i) v h = nth_type vs i v h

-- the items of two tuples at a place
pub items_at : (c d : Collection) (vs ws : List ValueType) (i : ℕ) (v w : ValueType) → slice_get vs i ≡ Some v → slice_get ws i ≡ Some w → AreAt (composed_side c tuple vs) (composed_side d tuple ws) i (value_tree c v) (value_tree d w)
items_at c d vs ws i v w h k = ([], nth_type (value_tree c) vs i v h, nth_type (value_tree d) ws i w k, λ check f is. rw is (record { alike = tt; same_check = refl; left = ap sided (tree_at (value_tree c) vs i v h); right = ap sided (tree_at (value_tree d) ws i w k) }))

unnamed_one : (f g : ValueType → ValueTree) (o p : Option ValueType) → option_map (λ (v : ValueType). let q : Text × Option ValueTree = ([], Some (f v)) in q) o ≡ option_map (λ (v : ValueType). let q : Text × Option ValueTree = ([], Some (g v)) in q) p → option_map f o ≡ option_map g p
unnamed_one f g None None h = refl
unnamed_one f g None (Some w) h = absurd (cc)
unnamed_one f g (Some v) None h = absurd (cc)
unnamed_one f g (Some v) (Some w) h = ap (λ (q : Text × Option ValueTree). q.1) (pair_of ([], Some (f v)) ([], Some (g w)) h)

-- two tuples of one size whose items are one up to their end
pub tuples_same : (c d : Collection) (vs ws : List ValueType) (i : ℕ) → length vs ≡ length ws → length vs ≤ i → SameBefore (composed_side c tuple vs) (composed_side d tuple ws) i → composed_side c tuple vs ≡ composed_side d tuple ws
tuples_same c d vs ws i l e same =
    same_items c d vs ws (length vs) l (λ k b.
    let here : slice_get (unnamed_parts (parts_of (map (value_tree c) vs))) k ≡ slice_get (unnamed_parts (parts_of (map (value_tree d) ws))) k = same k (omega arith) in
    let both = rw (unnamed (value_tree c) vs, unnamed (value_tree d) ws, slice_get-map (λ (v : ValueType). let q : Text × Option ValueTree = ([], Some (value_tree c v)) in q) vs k, slice_get-map (λ (v : ValueType). let q : Text × Option ValueTree = ([], Some (value_tree d v)) in q) ws k) at here in
    rw (slice_get-map (value_tree c) vs k, slice_get-map (value_tree d) ws k) (unnamed_one (value_tree c) (value_tree d) (slice_get vs k) (slice_get ws k) both)) refl

-- ---- maps

pub one_tree : (x y : ValueTree) → (let p : Option (Text × Option ValueTree) = Some ([], Some x) in p) ≡ Some ([], Some y) → x ≡ y
one_tree x y h = let same : Some x ≡ Some y = ap (λ (q : Text × Option ValueTree). q.1) (pair_of ([], Some x) ([], Some y) h) in cc

-- two maps whose keys and values are one
pub maps_same : (c d : Collection) (k v l w : ValueType) (i : ℕ) → 2 ≤ i → SameBefore (composed_side c map_of (k ∷ v ∷ [])) (composed_side d map_of (l ∷ w ∷ [])) i → composed_side c map_of (k ∷ v ∷ []) ≡ composed_side d map_of (l ∷ w ∷ [])
maps_same c d k v l w i more same =
    let keys = one_tree (value_tree c k) (value_tree d l) (same 0 (omega arith)) in
    let values = one_tree (value_tree c v) (value_tree d w) (same 1 (omega arith)) in
    rw (keys, values) refl

-- ---- records

field_parts : (f : ValueType → ValueTree) (es : List (String Global × ValueType)) → marked_parts (map (λ (n : Text). (n, true)) (names es)) (parts_of (map f (types_of es))) ≡ map (λ (e : String Global × ValueType). let q : Text × Option ValueTree = (string_bytes e.0, Some (f e.1)) in q) es
field_parts f [] = refl
field_parts f (e ∷ es) = ap (λ (ps : List (Text × Option ValueTree)). (string_bytes e.0, Some (f e.1)) ∷ ps) (field_parts f es)

field_at : (f : ValueType → ValueTree) (es : List (String Global × ValueType)) (i : ℕ) (n : Text) (v : ValueType) → slice_get (names es) i ≡ Some n → slice_get (types_of es) i ≡ Some v → slice_get (marked_parts (map (λ (n : Text). (n, true)) (names es)) (parts_of (map f (types_of es)))) i ≡ Some (n, Some (f v))
field_at f [] i n v l m = absurd (cc)
field_at f (e ∷ es) zero n v l m =
    let name_same : string_bytes e.0 ≡ n = cc in
    let type_same : e.1 ≡ v = cc in
    rw (name_same, type_same) refl
field_at f (e ∷ es) (suc i) n v l m = field_at f es i n v l m

-- the fields of two records at a place
pub fields_at : (c d : Collection) (es fs : List (String Global × ValueType)) (i : ℕ) (n : Text) (v w : ValueType) → slice_get (names es) i ≡ Some n → slice_get (names fs) i ≡ Some n → slice_get (types_of es) i ≡ Some v → slice_get (types_of fs) i ≡ Some w → lookup (λ k. bytes_eq n (string_bytes k)) es ≡ Some v → lookup (λ k. bytes_eq n (string_bytes k)) fs ≡ Some w → AreAt (composed_side c (record_of (names es)) (types_of es)) (composed_side d (record_of (names fs)) (types_of fs)) i (value_tree c v) (value_tree d w)
fields_at c d es fs i n v w h k l m at_left at_right = (
  n,
  field_at (value_tree c) es i n v h l,
  field_at (value_tree d) fs i n w k m,
  λ check f is.
      let one : is.0 ≡ n = cc (is.1, h) in leads_to_field check c d es fs n v w at_left at_right f (subst (λ (x : Text). IsField x f) one is.2),
)

module _ (f g : ValueType → ValueTree) where
  field_names : (o p : Option (String Global × ValueType)) → option_map (λ (e : String Global × ValueType). let q : Text × Option ValueTree = (string_bytes e.0, Some (f e.1)) in q) o ≡ option_map (λ (e : String Global × ValueType). let q : Text × Option ValueTree = (string_bytes e.0, Some (g e.1)) in q) p
      → (option_map (λ (e : String Global × ValueType). string_bytes e.0) o ≡ option_map (λ (e : String Global × ValueType). string_bytes e.0) p) × (option_map f (option_map (λ (e : String Global × ValueType). e.1) o) ≡ option_map g (option_map (λ (e : String Global × ValueType). e.1) p))
  field_names None None h = (refl, refl)
  field_names None (Some w) h = absurd (cc)
  field_names (Some v) None h = absurd (cc)
  field_names (Some v) (Some w) h =
      let one : (string_bytes v.0, Some (f v.1)) ≡ (string_bytes w.0, Some (g w.1)) = pair_of (string_bytes v.0, Some (f v.1)) (string_bytes w.0, Some (g w.1)) h in
      (ap (λ (q : Text × Option ValueTree). Some q.0) one, ap (λ (q : Text × Option ValueTree). q.1) one)

-- two records of one size whose fields are one up to their end
pub records_same : (c d : Collection) (es fs : List (String Global × ValueType)) (i : ℕ) → length es ≡ length fs → length es ≤ i → SameBefore (composed_side c (record_of (names es)) (types_of es)) (composed_side d (record_of (names fs)) (types_of fs)) i → composed_side c (record_of (names es)) (types_of es) ≡ composed_side d (record_of (names fs)) (types_of fs)
records_same c d es fs i l e same = same_records c d es fs (length es) l (λ k b. rw (slice_get-map (λ (e : String Global × ValueType). string_bytes e.0) es k, slice_get-map (λ (e : String Global × ValueType). string_bytes e.0) fs k) (at k b).0) (λ k b.
    rw (slice_get-map (value_tree c) (types_of es) k, slice_get-map (value_tree d) (types_of fs) k, slice_get-map (λ (e : String Global × ValueType). e.1) es k, slice_get-map (λ (e : String Global × ValueType). e.1) fs k) (at k b).1) refl
  where
    at : (k : ℕ) → k < length es → (option_map (λ (e : String Global × ValueType). string_bytes e.0) (slice_get es k) ≡ option_map (λ (e : String Global × ValueType). string_bytes e.0) (slice_get fs k)) × (option_map (value_tree c) (option_map (λ (e : String Global × ValueType). e.1) (slice_get es k)) ≡ option_map (value_tree d) (option_map (λ (e : String Global × ValueType). e.1) (slice_get fs k)))
    at k b =
        let here : slice_get (marked_parts (map (λ (n : Text). (n, true)) (names es)) (parts_of (map (value_tree c) (types_of es)))) k ≡ slice_get (marked_parts (map (λ (n : Text). (n, true)) (names fs)) (parts_of (map (value_tree d) (types_of fs)))) k = same k (omega arith) in
        field_names (value_tree c) (value_tree d) (slice_get es k) (slice_get fs k)
        (rw (field_parts (value_tree c) es, field_parts (value_tree d) fs, slice_get-map (λ (e : String Global × ValueType). let q : Text × Option ValueTree = (string_bytes e.0, Some (value_tree c e.1)) in q) es k, slice_get-map (λ (e : String Global × ValueType). let q : Text × Option ValueTree = (string_bytes e.0, Some (value_tree d e.1)) in q) fs k) at here)

-- ---- variants

case_parts : (c : Collection) (es : List (String Global × Option ValueType)) → side_parts (variant_side c es) ≡ map (case_tree c) es
case_parts c [] = refl
case_parts c ((k, None) ∷ es) = ap (λ (ps : List (Text × Option ValueTree)). (string_bytes k, None) ∷ ps) (case_parts c es)
case_parts c ((k, Some v) ∷ es) = ap (λ (ps : List (Text × Option ValueTree)). (string_bytes k, Some (value_tree c v)) ∷ ps) (case_parts c es)

case_at : (c : Collection) (es : List (String Global × Option ValueType)) (i : ℕ) (n : Text) (o : Option ValueType) → slice_get (names es) i ≡ Some n → slice_get (types_of es) i ≡ Some o → slice_get (side_parts (variant_side c es)) i ≡ Some (n, option_map (value_tree c) o)
case_at c es i n o l m = ap (λ (ps : List (Text × Option ValueTree)). slice_get ps i) (case_parts c es) ∙ entry_at (option_map (value_tree c)) es i n o l m

-- the cases of two variants at a place, where both have types
pub cases_at : (c d : Collection) (es fs : List (String Global × Option ValueType)) (i : ℕ) (n : Text) (v w : ValueType) → slice_get (names es) i ≡ Some n → slice_get (names fs) i ≡ Some n → slice_get (types_of es) i ≡ Some (Some v) → slice_get (types_of fs) i ≡ Some (Some w) → lookup (λ k. bytes_eq n (string_bytes k)) es ≡ Some (Some v) → lookup (λ k. bytes_eq n (string_bytes k)) fs ≡ Some (Some w) → AreAt (variant_side c es) (variant_side d fs) i (value_tree c v) (value_tree d w)
cases_at c d es fs i n v w h k l m at_left at_right = (
  n,
  case_at c es i n (Some v) h l,
  case_at d fs i n (Some w) k m,
  λ check f is.
      let here = rw (marks_names es) at is.1 in
      let one : is.0 ≡ n = cc (here, h) in leads_to_case check c d es fs n v w at_left at_right f (subst (λ (x : Text). IsCase x f) one is.2),
)

-- and where neither has
pub untyped_cases : (c d : Collection) (es fs : List (String Global × Option ValueType)) (i : ℕ) (n : Text) → slice_get (names es) i ≡ Some n → slice_get (names fs) i ≡ Some n → slice_get (types_of es) i ≡ Some None → slice_get (types_of fs) i ≡ Some None → i + 1 < 2 ^ 64 → IsIndex (variant_side c es) i × SamePart (variant_side c es) (variant_side d fs) i
untyped_cases c d es fs i n h k l m room =
    let left = case_at c es i n None h l in
    ((slice_get_within (side_parts (variant_side c es)) i (n, None) left, room), left ∙ sym (case_at d fs i n None k m))

-- two variants of one size whose cases are one up to their end
pub variants_same : (c d : Collection) (es fs : List (String Global × Option ValueType)) (i : ℕ) → length es ≡ length fs → length es ≤ i → SameBefore (variant_side c es) (variant_side d fs) i → variant_side c es ≡ variant_side d fs
variants_same c d es fs i l e same = same_variants c d es fs (length es) l (λ k b.
    ap (λ (ps : List (Text × Option ValueTree)). slice_get ps k) (sym (case_parts c es)) ∙ same k (omega arith) ∙ ap (λ (ps : List (Text × Option ValueTree)). slice_get ps k) (case_parts d fs)) refl

-- ---- results

result_parts : (c : Collection) (o e : Option ValueType) → side_parts (result_side c o e) ≡ ([], option_map (value_tree c) o) ∷ ([], option_map (value_tree c) e) ∷ []
result_parts c None None = refl
result_parts c None (Some w) = refl
result_parts c (Some v) None = refl
result_parts c (Some v) (Some w) = refl

module _ (f g : ValueType → ValueTree) where
  both_or_none : (o p : Option ValueType) → option_map f o ≡ option_map g p → (is_some o ≡ is_some p) × (map f (option_to_list o) ≡ map g (option_to_list p))
  both_or_none None None h = (refl, refl)
  both_or_none None (Some w) h = absurd (cc)
  both_or_none (Some v) None h = absurd (cc)
  both_or_none (Some v) (Some w) h = let same : f v ≡ g w = cc in (refl, ap (λ (t : ValueTree). t ∷ []) same)

result_trees : (f : ValueType → ValueTree) (o e : Option ValueType) → map f (option_to_list o ++ option_to_list e) ≡ map f (option_to_list o) ++ map f (option_to_list e)
result_trees f None e = refl
result_trees f (Some v) e = refl

-- the `ok` parts of two results, where both have types
pub oks_at : (c d : Collection) (v w : ValueType) (e e' : Option ValueType) → AreAt (result_side c (Some v) e) (result_side d (Some w) e') 0 (value_tree c v) (value_tree d w)
oks_at c d v w None None = ([], refl, refl, λ check f is. rw is (record { alike = tt; same_check = refl; left = refl; right = refl }))
oks_at c d v w None (Some y) = ([], refl, refl, λ check f is. rw is (record { alike = tt; same_check = refl; left = refl; right = refl }))
oks_at c d v w (Some x) None = ([], refl, refl, λ check f is. rw is (record { alike = tt; same_check = refl; left = refl; right = refl }))
oks_at c d v w (Some x) (Some y) = ([], refl, refl, λ check f is. rw is (record { alike = tt; same_check = refl; left = refl; right = refl }))

-- and the `err` parts
pub errs_at : (c d : Collection) (o o' : Option ValueType) (v w : ValueType) → AreAt (result_side c o (Some v)) (result_side d o' (Some w)) 1 (value_tree c v) (value_tree d w)
errs_at c d None None v w = ([], refl, refl, λ check f is. rw is (record { alike = tt; same_check = refl; left = refl; right = refl }))
errs_at c d None (Some y) v w = ([], refl, refl, λ check f is. rw is (record { alike = tt; same_check = refl; left = refl; right = refl }))
errs_at c d (Some x) None v w = ([], refl, refl, λ check f is. rw is (record { alike = tt; same_check = refl; left = refl; right = refl }))
errs_at c d (Some x) (Some y) v w = ([], refl, refl, λ check f is. rw is (record { alike = tt; same_check = refl; left = refl; right = refl }))

module _ (c d : Collection) (m n : ℕ) where
  -- what was found of the `ok` parts is what was found of the results at their first place
  pub part_of_oks : (o o' e e' : Option ValueType) (p : Finding) → keys_height c (flat_map value_keys (option_to_list o)) < m → keys_height d (flat_map value_keys (option_to_list o')) < n → AreOptionsCompared c d o o' p → IsValuePart c d (result_side c o e) (result_side d o' e') m n 0 p
  part_of_oks None None e e' p l r h = rw h ((omega (arith, ap length (result_parts c None e)), omega arith), refl)
  part_of_oks None (Some w) e e' p l r h = elim h [ ]
  part_of_oks (Some v) None e e' p l r h = elim h [ ]
  part_of_oks (Some v) (Some w) e e' p l r h = part_of_values c d (result_side c (Some v) e) (result_side d (Some w) e') m n 0 v w (omega arith) (oks_at c d v w e e') (rw (append_nil (value_keys v)) at l) (rw (append_nil (value_keys w)) at r) p h

  -- and so of the `err` parts
  pub part_of_errs : (o o' e e' : Option ValueType) (p : Finding) → keys_height c (flat_map value_keys (option_to_list e)) < m → keys_height d (flat_map value_keys (option_to_list e')) < n → AreOptionsCompared c d e e' p → IsValuePart c d (result_side c o e) (result_side d o' e') m n 1 p
  part_of_errs o o' None None p l r h = rw h ((omega (arith, ap length (result_parts c o None)), omega arith), ap (λ (ps : List (Text × Option ValueTree)). slice_get ps 1) (result_parts c o None) ∙ sym (ap (λ (ps : List (Text × Option ValueTree)). slice_get ps 1) (result_parts d o' None)))
  part_of_errs o o' None (Some w) p l r h = elim h [ ]
  part_of_errs o o' (Some v) None p l r h = elim h [ ]
  part_of_errs o o' (Some v) (Some w) p l r h = part_of_values c d (result_side c o (Some v)) (result_side d o' (Some w)) m n 1 v w (omega arith) (errs_at c d o o' v w) (rw (append_nil (value_keys v)) at l) (rw (append_nil (value_keys w)) at r) p h

pub ok_disagrees : (check : SubtypeCheck) (c d : Collection) (o o' e e' : Option ValueType) → is_some o ≢ is_some o' → by_check check (HoldsOfSides (fault.ResultPart result_of.Ok (expected_of check (is_some o) (is_some o')))) (result_side c o e) (result_side d o' e')
ok_disagrees Covariant c d o o' e e' ne = (λ same. ne (sym same), refl)
ok_disagrees Contravariant c d o o' e e' ne = (ne, refl)

pub err_disagrees : (check : SubtypeCheck) (c d : Collection) (o o' e e' : Option ValueType) → is_some e ≢ is_some e' → by_check check (HoldsOfSides (fault.ResultPart result_of.Err (expected_of check (is_some e) (is_some e')))) (result_side c o e) (result_side d o' e')
err_disagrees Covariant c d o o' e e' ne = (λ same. ne (sym same), refl)
err_disagrees Contravariant c d o o' e e' ne = (ne, refl)

-- two results whose parts are one up to their end
pub results_same : (c d : Collection) (o e o' e' : Option ValueType) (i : ℕ) → 2 ≤ i → SameBefore (result_side c o e) (result_side d o' e') i → result_side c o e ≡ result_side d o' e'
results_same c d o e o' e' i l same =
    let first = rw (result_parts c o e, result_parts d o' e') at (same 0 (omega arith)) in
    let second = rw (result_parts c o e, result_parts d o' e') at (same 1 (omega arith)) in
    let ok = both_or_none (value_tree c) (value_tree d) o o' (ap (λ (q : Text × Option ValueTree). q.1) (pair_of ([], option_map (value_tree c) o) ([], option_map (value_tree d) o') first)) in
    let err = both_or_none (value_tree c) (value_tree d) e e' (ap (λ (q : Text × Option ValueTree). q.1) (pair_of ([], option_map (value_tree c) e) ([], option_map (value_tree d) e') second)) in
    rw (result_trees (value_tree c) o e, result_trees (value_tree d) o' e', ok.0, ok.1, err.0, err.1) refl

-- ---- of what two entries say

module _ (c d : Collection) (s t : Side) (m n k l i : ℕ) (left : m ≤ k) (right : n ≤ l) where
  pub have_below : (e : Entries) → HaveAt c d s t m n i e → HaveAt c d s t k l i e
  have_below (DefinedTypes x y) h = (h.0, h.1, omega (arith, h.2), omega (arith, h.3))
  have_below (Funcs x y) h = elim h [ ]
  have_below (Interfaces x y) h = elim h [ ]
  have_below (Worlds x y) h = elim h [ ]
  have_below (Modules x y) h = elim h [ ]

-- ---- frames

pub case_count : (c : Collection) (es : List (String Global × Option ValueType)) (i : ℕ) → i < length (side_parts (variant_side c es)) → i < length es
case_count c es i h = let below : i < length (map (case_tree c) es) = rw (case_parts c es) at h in simp length-map at below

pub field_count : (c : Collection) (es : List (String Global × ValueType)) (i : ℕ) → i < length (side_parts (composed_side c (record_of (names es)) (types_of es))) → i < length es
field_count c es i h = let below = rw (field_parts (value_tree c) es) at h in simp length-map at below

pub case_frame_at : (c : Collection) (es : List (String Global × Option ValueType)) (i : ℕ) (n : String Global) → slice_get (names es) i ≡ Some (string_bytes n) → IsFrameAt (variant_side c es) i (frame.Case n)
case_frame_at c es i n at = (string_bytes n, rw (marks_names es) at, refl)
