-- What is listed of flags, enums, maps, results and functions.
use Rattle.std.proofs.Common.{◌≡◌, ◌≤◌, ◌<◌, ◌+◌, ◌^◌, inl, ℕ, List, [], ◌∷◌, ◌++◌, length, Bool, Option, Some, None, Ok, Err, is_some, slice_get, string_bytes, Bor, String, Global, refl, ap, subst, arith}
use Rattle.std.specs.Map.{lookup as lookup_by}
use Rattle.std.specs.Str.{bytes_eq}
use Rattle.std.specs.List.{flat_map}
use Rattle.std.specs.Option.{option_to_list}
use Rattle.std.proofs.lemmas.List.{length-map}
use Rattle.wac_model.specs.Text.{Text}
use Rattle.wac_model.specs.ValueTree.{node, no_parts, map_of, flags, enum}
use Rattle.wac_model.specs.ItemTree.{Kind, item}
use Rattle.wac_component.specs.Collection.{Collection}
use Rattle.wac_component.specs.Content.{named, names, types_of, case_types, func_content}
use Rattle.wac_component.specs.Height.{keys_height}
use Rattle.wac_component.specs.Key.{AllStand, func_keys, optional_keys, value_keys}
use Rattle.wac_component.specs.Tree.{value_tree, func_content_tree}
use Rattle.wac_component.specs.declared.functions.FuncType.{FuncType}
use Rattle.wac_component.specs.declared.items.ValueType.{ValueType}
use Rattle.wac_component.proofs.Lists.{append_nil}
use Rattle.wac_component.proofs.Members.{AllStand-member, keys_height-member}
use Rattle.wac_mismatch.specs.Place.{value_side}
use Rattle.wac_mismatch.specs.declared.fault.CountOf.TheVariants as count_of
use Rattle.wac_mismatch.specs.declared.fault.NameOf.TheVariants as name_of
use Rattle.wac_mismatch.specs.declared.fault.ResultPart.TheVariants as result_part
use Rattle.wac_checker_parts.specs.Content.{composed_side, result_side, variant_side}
use Rattle.wac_checker_parts.specs.Parts.{SameBefore}
use Rattle.std.specs.Prelude.{Contains}
use Rattle.wac_component.specs.Id.{Id}
use Rattle.wac_component.specs.declared.items.ValueType.TheVariants.{Defined}
use Rattle.wac_checker_parts.specs.Pairs.{DefinedTypes, Same}
use Rattle.wac_checker_parts.specs.Listing.{AreComposed, IsTurn, IsFuncTurn, IsNamesTurn, IsLastTurn, IsOptionalTurn, IsParamsTurn, IsSideTurn, IsTurnTo, Turn, func_side, members_height}
use Rattle.wac_mismatch.proofs.DifferenceLemmas.{differ_refutes}
use Rattle.wac_mismatch.specs.Difference.{DifferIn}
use Rattle.wac_mismatch.specs.declared.difference.Difference.{Difference}
use Rattle.wac_mismatch.specs.declared.difference.Difference.TheVariants as difference
use Rattle.wac_checker_parts.specs.declared.parts.PairPart.{PairPart}
use Rattle.wac_checker_parts.specs.declared.parts.Halt.TheVariants as halt
use Rattle.wac_checker_parts.proofs.CaseLemmas.{case_place}
use Rattle.wac_checker_parts.proofs.DifferenceLemmas.{case_types_differ, flags_by, enums_by, oks_differ, errs_differ, func_results_differ}
use Rattle.wac_checker_parts.proofs.FuncLemmas.{length-params, func_result_lower, optional_stands}
use Rattle.wac_checker_parts.proofs.FuncPartLemmas.{funcs_same, no_results, results_at}
use Rattle.wac_checker_parts.proofs.ListingLemmas.{none_listed, turn_done, turn_from, turn_last, turn_other, turn_same}
use Rattle.wac_checker_parts.proofs.PartLemmas.{cases_at, untyped_cases, errs_at, maps_same, oks_at, part_of_errs, part_of_oks, results_same}

-- ---- names

module _ (l r : Collection) (w : Bool) (xs ys : List Text) (m n : ℕ) (ms : List PairPart) (none : ms ≡ []) where
  pub flags_turn : (k : Turn) → IsNamesTurn count_of.Flags name_of.Flags xs ys k → IsSideTurn l r w (value_side (node (flags xs) no_parts)) (value_side (node (flags ys) no_parts)) m n ms k
  flags_turn (Ok u) h = (none_listed l r w (value_side (node (flags xs) no_parts)) (value_side (node (flags ys) no_parts)) m n ms none, λ all. ap (λ (zs : List Text). value_side (node (flags zs) no_parts)) h)
  flags_turn (Err (halt.Apart x)) h = (none_listed l r w (value_side (node (flags xs) no_parts)) (value_side (node (flags ys) no_parts)) m n ms none, λ c f is. inl (flags_by xs ys no_parts no_parts c f (h c f is)))
  flags_turn (Err (halt.PartApart j b x)) h = elim h [ ]
  flags_turn (Err halt.Modules) h = elim h [ ]
  flags_turn (Err halt.Memory) h = elim h [ ]

  pub enums_turn : (k : Turn) → IsNamesTurn count_of.Enum name_of.Enum xs ys k → IsSideTurn l r w (value_side (node (enum xs) no_parts)) (value_side (node (enum ys) no_parts)) m n ms k
  enums_turn (Ok u) h = (none_listed l r w (value_side (node (enum xs) no_parts)) (value_side (node (enum ys) no_parts)) m n ms none, λ all. ap (λ (zs : List Text). value_side (node (enum zs) no_parts)) h)
  enums_turn (Err (halt.Apart x)) h = (none_listed l r w (value_side (node (enum xs) no_parts)) (value_side (node (enum ys) no_parts)) m n ms none, λ c f is. inl (enums_by xs ys no_parts no_parts c f (h c f is)))
  enums_turn (Err (halt.PartApart j b x)) h = elim h [ ]
  enums_turn (Err halt.Modules) h = elim h [ ]
  enums_turn (Err halt.Memory) h = elim h [ ]

-- ---- maps

module _ (l r : Collection) (w : Bool) (a v b x : ValueType) (ms ns : List PairPart) (none : ms ≡ []) where
  keys_turn : (k : Turn) → IsLastTurn l r w 0 a b ms ns k → IsTurnTo l r w (composed_side l map_of (a ∷ v ∷ [])) (composed_side r map_of (b ∷ x ∷ [])) (members_height l (a ∷ v ∷ [])) (members_height r (b ∷ x ∷ [])) 1 ns k
  keys_turn k last =
      let left = keys_height-member l (a ∷ v ∷ []) 0 a refl in
      let right = keys_height-member r (b ∷ x ∷ []) 0 b refl in
      turn_last l r w (composed_side l map_of (a ∷ v ∷ [])) (composed_side r map_of (b ∷ x ∷ [])) (members_height l (a ∷ v ∷ [])) (members_height r (b ∷ x ∷ [])) 0 a b ms ns (omega arith) ([], refl, refl, λ check f is. rw is (record { alike = tt; same_check = refl; left = refl; right = refl })) (omega (arith, left)) (omega (arith, right)) k last (turn_from l r w (composed_side l map_of (a ∷ v ∷ [])) (composed_side r map_of (b ∷ x ∷ [])) (members_height l (a ∷ v ∷ [])) (members_height r (b ∷ x ∷ [])) ms none)

  pub map_keys : (k : Turn) → (k ≡ (Ok tt) → ⊥) → IsLastTurn l r w 0 a b ms ns k → AreComposed l r w map_of (a ∷ v ∷ []) map_of (b ∷ x ∷ []) ns k
  map_keys k other last = turn_other l r w (composed_side l map_of (a ∷ v ∷ [])) (composed_side r map_of (b ∷ x ∷ [])) (members_height l (a ∷ v ∷ [])) (members_height r (b ∷ x ∷ [])) 1 ns k other (keys_turn k last)

  pub map_values : (os : List PairPart) (k : Turn) → IsLastTurn l r w 0 a b ms ns (Ok tt) → IsLastTurn l r w 1 v x ns os k → AreComposed l r w map_of (a ∷ v ∷ []) map_of (b ∷ x ∷ []) os k
  map_values os k first last =
      let left = keys_height-member l (a ∷ v ∷ []) 1 v refl in
      let right = keys_height-member r (b ∷ x ∷ []) 1 x refl in
      turn_done l r w (composed_side l map_of (a ∷ v ∷ [])) (composed_side r map_of (b ∷ x ∷ [])) (members_height l (a ∷ v ∷ [])) (members_height r (b ∷ x ∷ [])) 2 os k
      (turn_last l r w (composed_side l map_of (a ∷ v ∷ [])) (composed_side r map_of (b ∷ x ∷ [])) (members_height l (a ∷ v ∷ [])) (members_height r (b ∷ x ∷ [])) 1 v x ns os (omega arith) ([], refl, refl, λ check f is. rw is (record { alike = tt; same_check = refl; left = refl; right = refl })) (omega (arith, left)) (omega (arith, right)) k last (keys_turn (Ok tt) first))
      (λ same. maps_same l r a v b x 2 (omega arith) same)

-- ---- results

first_lower : (c : Collection) (o e : Option ValueType) → keys_height c (flat_map value_keys (option_to_list o)) ≤ keys_height c (flat_map value_keys (option_to_list o ++ option_to_list e))
first_lower c None e = omega arith
first_lower c (Some v) e = rw (append_nil (value_keys v)) (keys_height-member c (v ∷ option_to_list e) 0 v refl)

second_lower : (c : Collection) (o e : Option ValueType) → keys_height c (flat_map value_keys (option_to_list e)) ≤ keys_height c (flat_map value_keys (option_to_list o ++ option_to_list e))
second_lower c o None = omega arith
second_lower c None (Some v) = omega arith
second_lower c (Some q) (Some v) =
    let member = keys_height-member c (q ∷ v ∷ []) 1 v refl in
    let alone : keys_height c (value_keys v ++ []) ≡ keys_height c (value_keys v) = ap (keys_height c) (append_nil (value_keys v)) in
    omega (arith, member, alone)

module _ (l r : Collection) (w : Bool) (m n : ℕ) where
  oks_turn : (o p e g : Option ValueType) (ms ns : List PairPart) (k : Turn) → keys_height l (flat_map value_keys (option_to_list o)) < m → keys_height r (flat_map value_keys (option_to_list p)) < n → IsOptionalTurn l r w 0 (difference.ResultPart result_part.Ok (is_some o) (is_some p)) o p ms ns k → IsTurnTo l r w (result_side l o e) (result_side r p g) m n 0 ms (Ok tt) → IsTurnTo l r w (result_side l o e) (result_side r p g) m n 1 ns k
  oks_turn None None e g ms ns k left right h before = rw (h.0, h.1) (turn_same l r w (result_side l None e) (result_side r None g) m n 0 ms (part_of_oks l r m n None None e g Same left right refl).1 before)
  oks_turn (Some v) (Some x) e g ms ns k left right h before = turn_last l r w (result_side l (Some v) e) (result_side r (Some x) g) m n 0 v x ms ns (omega arith) (oks_at l r v x e g) (rw (append_nil (value_keys v)) at left) (rw (append_nil (value_keys x)) at right) k h before
  oks_turn None (Some x) e g ms ns k left right h before = rw (h.0, h.1) (before.0, oks_differ l r None (Some x) e g (λ e'. absurd (cc (e'))))
  oks_turn (Some v) None e g ms ns k left right h before = rw (h.0, h.1) (before.0, oks_differ l r (Some v) None e g (λ e'. absurd (cc (e'))))

  errs_turn : (o p e g : Option ValueType) (ms ns : List PairPart) (k : Turn) → keys_height l (flat_map value_keys (option_to_list e)) < m → keys_height r (flat_map value_keys (option_to_list g)) < n → IsOptionalTurn l r w 1 (difference.ResultPart result_part.Err (is_some e) (is_some g)) e g ms ns k → IsTurnTo l r w (result_side l o e) (result_side r p g) m n 1 ms (Ok tt) → IsTurnTo l r w (result_side l o e) (result_side r p g) m n 2 ns k
  errs_turn o p None None ms ns k left right h before = rw (h.0, h.1) (turn_same l r w (result_side l o None) (result_side r p None) m n 1 ms (part_of_errs l r m n o p None None Same left right refl).1 before)
  errs_turn o p (Some v) (Some x) ms ns k left right h before = turn_last l r w (result_side l o (Some v)) (result_side r p (Some x)) m n 1 v x ms ns (omega arith) (errs_at l r o p v x) (rw (append_nil (value_keys v)) at left) (rw (append_nil (value_keys x)) at right) k h before
  errs_turn o p None (Some x) ms ns k left right h before = rw (h.0, h.1) (before.0, errs_differ l r o p None (Some x) (λ e'. absurd (cc (e'))))
  errs_turn o p (Some v) None ms ns k left right h before = rw (h.0, h.1) (before.0, errs_differ l r o p (Some v) None (λ e'. absurd (cc (e'))))

module _ (l r : Collection) (w : Bool) (o p e g : Option ValueType) (ms ns : List PairPart) (none : ms ≡ []) where
  first_turn : (k : Turn) → IsOptionalTurn l r w 0 (difference.ResultPart result_part.Ok (is_some o) (is_some p)) o p ms ns k → IsTurnTo l r w (result_side l o e) (result_side r p g) (members_height l (option_to_list o ++ option_to_list e)) (members_height r (option_to_list p ++ option_to_list g)) 1 ns k
  first_turn k h =
      let left = first_lower l o e in
      let right = first_lower r p g in
      oks_turn l r w (members_height l (option_to_list o ++ option_to_list e)) (members_height r (option_to_list p ++ option_to_list g)) o p e g ms ns k (omega (arith, left)) (omega (arith, right)) h (turn_from l r w (result_side l o e) (result_side r p g) (members_height l (option_to_list o ++ option_to_list e)) (members_height r (option_to_list p ++ option_to_list g)) ms none)

  pub result_oks : (k : Turn) → (k ≡ (Ok tt) → ⊥) → IsOptionalTurn l r w 0 (difference.ResultPart result_part.Ok (is_some o) (is_some p)) o p ms ns k → IsSideTurn l r w (result_side l o e) (result_side r p g) (members_height l (option_to_list o ++ option_to_list e)) (members_height r (option_to_list p ++ option_to_list g)) ns k
  result_oks k other h = turn_other l r w (result_side l o e) (result_side r p g) (members_height l (option_to_list o ++ option_to_list e)) (members_height r (option_to_list p ++ option_to_list g)) 1 ns k other (first_turn k h)

  pub result_errs : (os : List PairPart) (k : Turn) → IsOptionalTurn l r w 0 (difference.ResultPart result_part.Ok (is_some o) (is_some p)) o p ms ns (Ok tt) → IsOptionalTurn l r w 1 (difference.ResultPart result_part.Err (is_some e) (is_some g)) e g ns os k → IsSideTurn l r w (result_side l o e) (result_side r p g) (members_height l (option_to_list o ++ option_to_list e)) (members_height r (option_to_list p ++ option_to_list g)) os k
  result_errs os k first h =
      let left = second_lower l o e in
      let right = second_lower r p g in
      turn_done l r w (result_side l o e) (result_side r p g) (members_height l (option_to_list o ++ option_to_list e)) (members_height r (option_to_list p ++ option_to_list g)) 2 os k
      (errs_turn l r w (members_height l (option_to_list o ++ option_to_list e)) (members_height r (option_to_list p ++ option_to_list g)) o p e g ns os k (omega (arith, left)) (omega (arith, right)) h (first_turn (Ok tt) first))
      (λ same. results_same l r o e p g 2 (omega arith) same)

-- ---- the results of functions

pub length-named : (es : List (String Global × ValueType)) → length (named (λ (v : ValueType). v) es) ≡ length es
length-named es = simp length-map

module _ (l r : Collection) (w : Bool) (f g : FuncType) (ms ns : List PairPart) (k : Turn) (async : f.is_async ≡ g.is_async) (count : length f.params.entries ≡ length g.params.entries) (few : length f.params.entries + 1 < 2 ^ 64)
    (before : IsParamsTurn l r w (func_content f) (func_content g) ms (Ok tt)) where
  funcs_done : (j : Kind) → SameBefore (func_side j l (func_content f)) (func_side j r (func_content g)) (length f.params.entries + 1) → func_side j l (func_content f) ≡ func_side j r (func_content g)
  funcs_done j same =
      let left = length-params l f.params.entries in
      let right = length-params r g.params.entries in
      funcs_same (func_content_tree l (func_content f)) (func_content_tree r (func_content g)) (length f.params.entries + 1) j async (omega (arith, left, right, count)) (omega (arith, left)) same

  so_far : (j : Kind) → IsTurnTo l r w (func_side j l (func_content f)) (func_side j r (func_content g)) (keys_height l (func_keys (func_content f)) + 1) (keys_height r (func_keys (func_content g)) + 1) (length f.params.entries) ms (Ok tt)
  so_far j = ((before j).0, λ all i b. (before j).1 all i (let all_named = length-named f.params.entries in omega (arith, b, all_named)))

  by_results : (o p : Option ValueType) → f.«result» ≡ o → g.«result» ≡ p → IsOptionalTurn l r w (length f.params.entries) (difference.FuncResult (is_some f.«result») (is_some g.«result»)) o p ms ns k → (j : Kind) → IsTurnTo l r w (func_side j l (func_content f)) (func_side j r (func_content g)) (keys_height l (func_keys (func_content f)) + 1) (keys_height r (func_keys (func_content g)) + 1) (length f.params.entries + 1) ns k
  by_results None None left right h j =
      let first = length-params l f.params.entries in
      let second = length-params r g.params.entries in
      rw (h.0, h.1) (turn_same l r w (func_side j l (func_content f)) (func_side j r (func_content g)) (keys_height l (func_keys (func_content f)) + 1) (keys_height r (func_keys (func_content g)) + 1) (length f.params.entries) ms (no_results (func_content_tree l (func_content f)) (func_content_tree r (func_content g)) (length f.params.entries) j (omega (arith, first)) (omega (arith, second, count)) few (rw left refl) (rw right refl)).1 (so_far j))
  by_results (Some v) (Some x) left right h j =
      let first = length-params l f.params.entries in
      let second = length-params r g.params.entries in
      let low = func_result_lower l f v left in
      let low' = func_result_lower r g x right in
      turn_last l r w (func_side j l (func_content f)) (func_side j r (func_content g)) (keys_height l (func_keys (func_content f)) + 1) (keys_height r (func_keys (func_content g)) + 1) (length f.params.entries) v x ms ns few (results_at l r (func_content_tree l (func_content f)) (func_content_tree r (func_content g)) (length f.params.entries) v x j (omega (arith, first)) (omega (arith, second, count)) (rw left refl) (rw right refl)) (omega (arith, low)) (omega (arith, low')) k h (so_far j)
  by_results None (Some x) left right h j = rw (h.0, h.1) ((so_far j).0, func_results_differ j (func_content_tree l (func_content f)) (func_content_tree r (func_content g)) (is_some f.«result») (is_some g.«result») (rw left refl) (rw right refl) (rw (left, right) (λ e. absurd (cc (e)))))
  by_results (Some v) None left right h j = rw (h.0, h.1) ((so_far j).0, func_results_differ j (func_content_tree l (func_content f)) (func_content_tree r (func_content g)) (is_some f.«result») (is_some g.«result») (rw left refl) (rw right refl) (rw (left, right) (λ e. absurd (cc (e)))))

  pub func_results : IsOptionalTurn l r w (length f.params.entries) (difference.FuncResult (is_some f.«result») (is_some g.«result»)) f.«result» g.«result» ms ns k → IsFuncTurn l r w (func_content f) (func_content g) ns k
  func_results h j = turn_done l r w (func_side j l (func_content f)) (func_side j r (func_content g)) (keys_height l (func_keys (func_content f)) + 1) (keys_height r (func_keys (func_content g)) + 1) (length f.params.entries + 1) ns k (by_results f.«result» g.«result» refl refl h j) (funcs_done j)

-- ---- cases

case_stands : (c : Collection) (es : List (String Global × Option ValueType)) (i : ℕ) (o : Option ValueType) → slice_get (types_of es) i ≡ Some o → AllStand c (flat_map value_keys (case_types es)) → AllStand c (optional_keys value_keys o)
case_stands c es i None at h = tt
case_stands c es i (Some v) at h = let place = case_place es i v at in AllStand-member c (case_types es) place.0 v place.1 h

-- the type of a case stands where those of all do
pub cases_stand : (c : Collection) (es : List (String Global × Option ValueType)) (i : ℕ) (o : Option ValueType) → slice_get (types_of es) i ≡ Some o → AllStand c (flat_map value_keys (case_types es)) → AllStand c (flat_map value_keys (option_to_list o))
cases_stand c es i o at h = optional_stands c o (case_stands c es i o at h)

module _ (l r : Collection) (w : Bool) (es fs : List (String Global × Option ValueType)) (i : ℕ) (n : Bor (String Global)) (ms ns : List PairPart) (room : i + 1 < 2 ^ 64)
    (left_name : slice_get (names es) i ≡ Some (string_bytes n.now)) (right_name : slice_get (names fs) i ≡ Some (string_bytes n.now)) where
  -- the types of the two cases at a place
  pub cases_turn : (o p : Option ValueType) (k : Turn) → slice_get (types_of es) i ≡ Some o → slice_get (types_of fs) i ≡ Some p → lookup_by (λ k. bytes_eq (string_bytes n.now) (string_bytes k)) es ≡ Some o → lookup_by (λ k. bytes_eq (string_bytes n.now) (string_bytes k)) fs ≡ Some p
      → IsOptionalTurn l r w i (difference.CaseType n (is_some o) (is_some p)) o p ms ns k → IsTurnTo l r w (variant_side l es) (variant_side r fs) (members_height l (case_types es)) (members_height r (case_types fs)) i ms (Ok tt) → IsTurnTo l r w (variant_side l es) (variant_side r fs) (members_height l (case_types es)) (members_height r (case_types fs)) (i + 1) ns k
  cases_turn None None k left right left_found right_found h before = rw (h.0, h.1) (turn_same l r w (variant_side l es) (variant_side r fs) (members_height l (case_types es)) (members_height r (case_types fs)) i ms (untyped_cases l r es fs i (string_bytes n.now) left_name right_name left right room).1 before)
  cases_turn (Some v) (Some x) k left right left_found right_found h before =
      let left_at = case_place es i v left in
      let right_at = case_place fs i x right in
      let left_low = keys_height-member l (case_types es) left_at.0 v left_at.1 in
      let right_low = keys_height-member r (case_types fs) right_at.0 x right_at.1 in
      turn_last l r w (variant_side l es) (variant_side r fs) (members_height l (case_types es)) (members_height r (case_types fs)) i v x ms ns room (cases_at l r es fs i (string_bytes n.now) v x left_name right_name left right left_found right_found) (omega (arith, left_low)) (omega (arith, right_low)) k h before
  cases_turn None (Some x) k left right left_found right_found h before = rw (h.0, h.1) (before.0, case_types_differ l r es fs i n None (Some x) (λ e. absurd (cc (e))) left_name right_name left right)
  cases_turn (Some v) None k left right left_found right_found h before = rw (h.0, h.1) (before.0, case_types_differ l r es fs i n (Some v) None (λ e. absurd (cc (e))) left_name right_name left right)

-- ---- defined types of different cases

pub others_turn : (l r : Collection) (w : Bool) (a b : Id) (ms : List PairPart) (x : Difference) → ms ≡ [] → DifferIn x (value_side (value_tree l (Defined a))) (value_side (value_tree r (Defined b))) → IsTurn l r w (DefinedTypes a b) ms (Err (halt.Apart x))
others_turn l r w a b ms x none h = (
  (λ q m. absurd (let nothing = subst (λ (xs : List PairPart). Contains xs q) none m in omega (arith, nothing.1))),
  (λ c f is k. h c f is),
  (λ fit. differ_refutes x (value_side (value_tree l (Defined a))) (value_side (value_tree r (Defined b))) h (fit item)),
)
