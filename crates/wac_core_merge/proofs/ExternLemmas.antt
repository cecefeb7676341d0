-- Core externs that are equal but for limits have the bounds that their
-- limits have, if these are valid.
use Rattle.std.proofs.Common.{◌≡◌, ◌↔◌, refl, Bool, true, false, subst, sym, ◌∙◌, Some, None}
use Rattle.std.specs.Bool.{beq}
use Rattle.std.specs.Cmp.{booleans_Decides}
use Rattle.wac_model.specs.CoreTree.{Limits, CoreTree, plain, limited, func, tag, table, global, LimitsFit, CoreFits, is_within, is_valid_extern}
use Rattle.wac_core.specs.Content.{ref_tree, core_type_tree, core_func_content}
use Rattle.wac_core.specs.declared.values.CoreRefType.{CoreRefType}
use Rattle.wac_core.specs.declared.values.CoreType.{CoreType}
use Rattle.wac_core.specs.contracts.values.CoreRefTypePartialEq.TheImpl.{ghosts as of_refs}
use Rattle.wac_core.specs.contracts.values.CoreTypePartialEq.TheImpl.{ghosts as of_types}
use Rattle.wac_core.specs.contracts.values.CoreFuncTypePartialEq.TheImpl.{ghosts as of_funcs}
use Rattle.wac_core.specs.declared.values.CoreFuncType.{CoreFuncType}
use Rattle.wac_core.proofs.TypeLemmas.{ref_exact, type_exact, func_decides}
use Rattle.wac_bounds.specs.MeetIn.{IsMeetIn, IsJoinIn}
use Rattle.wac_bounds.specs.Valid.{ValidFits}
use Rattle.wac_bounds.proofs.CoreMeet.{limited_meet, limited_join, valid_if, meet_among_valid}
use Rattle.wac_core_merge.specs.Limits.{of_plain, of_limited, label_of, limits_of, with_limits}

pub meet_by_limits : (a b m : CoreTree) (x y l : Limits) → label_of a ≡ label_of b → Some x ≡ limits_of a → Some y ≡ limits_of b → IsMeetIn LimitsFit x y (Some l) → m ≡ with_limits a l → IsMeetIn CoreFits a b (Some m)
meet_by_limits (limited k p) (limited j q) m x y l same at_a at_b meet is =
    let e : x ≡ p = cc in
    let f : y ≡ q = cc in
    rw is (limited_meet k j (cc) p q l (subst (λ z. IsMeetIn LimitsFit p z (Some l)) f (subst (λ z. IsMeetIn LimitsFit z y (Some l)) e meet)))
meet_by_limits (limited k p) (plain j) m x y l same at_a at_b meet is = absurd (cc)
meet_by_limits (plain k) b m x y l same at_a at_b meet is = absurd (cc)

pub join_by_limits : (a b m : CoreTree) (x y l : Limits) → label_of a ≡ label_of b → Some x ≡ limits_of a → Some y ≡ limits_of b → IsJoinIn LimitsFit x y (Some l) → m ≡ with_limits a l → IsJoinIn CoreFits a b (Some m)
join_by_limits (limited k p) (limited j q) m x y l same at_a at_b join is =
    let e : x ≡ p = cc in
    let f : y ≡ q = cc in
    rw is (limited_join k j (cc) p q l (subst (λ z. IsJoinIn LimitsFit p z (Some l)) f (subst (λ z. IsJoinIn LimitsFit z y (Some l)) e join)))
join_by_limits (limited k p) (plain j) m x y l same at_a at_b join is = absurd (cc)
join_by_limits (plain k) b m x y l same at_a at_b join is = absurd (cc)

-- the meet among all externs is the one among valid ones if it is valid, and else there is none
met_if : (a b m : CoreTree) (valid : Bool) → IsMeetIn CoreFits a b (Some m) → is_valid_extern m ≡ valid → IsMeetIn ValidFits a b (valid_if valid m)
met_if a b m valid h is = subst (λ t. IsMeetIn ValidFits a b (valid_if t m)) is (meet_among_valid a b (Some m) h)

valid_with : (a : CoreTree) (x l : Limits) → Some x ≡ limits_of a → is_valid_extern (with_limits a l) ≡ is_within l.initial l.maximum
valid_with (limited k p) x l at = refl
valid_with (plain k) x l at = absurd (cc)

module _ (a b : CoreTree) (x y l : Limits) (same : label_of a ≡ label_of b) (at_a : Some x ≡ limits_of a) (at_b : Some y ≡ limits_of b) (meet : IsMeetIn LimitsFit x y (Some l)) where
  pub valid_meet_by_limits : (m : CoreTree) → m ≡ with_limits a l → is_within l.initial l.maximum ≡ true → IsMeetIn ValidFits a b (Some m)
  valid_meet_by_limits m is valid = met_if a b m true (meet_by_limits a b m x y l same at_a at_b meet is) (rw is (valid_with a x l at_a ∙ valid))

  pub no_valid_meet_by_limits : is_within l.initial l.maximum ≡ false → IsMeetIn ValidFits a b None
  no_valid_meet_by_limits invalid = met_if a b (with_limits a l) false (meet_by_limits a b (with_limits a l) x y l same at_a at_b meet refl) (valid_with a x l at_a ∙ invalid)

-- what `==` says of the parts of two labels
module _ (x_flag y_flag x_shared y_shared : Bool) where
  pub table_labels : (x y : CoreRefType) → of_refs.eq x y ≡ true → beq x_flag y_flag ≡ true
      → (beq x_shared y_shared ≡ true) ↔ (of_limited (table (ref_tree x) x_flag x_shared) ≡ of_limited (table (ref_tree y) y_flag y_shared))
  table_labels x y e f =
      let one : beq x_shared y_shared ≡ true → of_limited (table (ref_tree x) x_flag x_shared) ≡ of_limited (table (ref_tree y) y_flag y_shared)
      = λ g. λ i. of_limited (table (ref_tree (ref_exact x y e i)) ((booleans_Decides x_flag y_flag).0 f i) ((booleans_Decides x_shared y_shared).0 g i)) in
      (one, λ g. (booleans_Decides x_shared y_shared).1 (cc))

  pub global_labels : (x y : CoreType) → of_types.eq x y ≡ true → beq x_flag y_flag ≡ true
      → (beq x_shared y_shared ≡ true) ↔ (of_plain (global (core_type_tree x) x_flag x_shared) ≡ of_plain (global (core_type_tree y) y_flag y_shared))
  global_labels x y e f =
      let one : beq x_shared y_shared ≡ true → of_plain (global (core_type_tree x) x_flag x_shared) ≡ of_plain (global (core_type_tree y) y_flag y_shared)
      = λ g. λ i. of_plain (global (core_type_tree (type_exact x y e i)) ((booleans_Decides x_flag y_flag).0 f i) ((booleans_Decides x_shared y_shared).0 g i)) in
      (one, λ g. (booleans_Decides x_shared y_shared).1 (cc))

both_parts : {A B : Type 0} {p q : A × B} → p.0 ≡ q.0 → p.1 ≡ q.1 → p ≡ q
both_parts e f = λ i. (e i, f i)

module _ (x y : CoreFuncType) (r : Bool) (says : r ≡ of_funcs.eq x y) where
  one_content : r ≡ true → core_func_content x ≡ core_func_content y
  one_content g = (func_decides x y).0 (sym says ∙ g)

  equal : core_func_content x ≡ core_func_content y → r ≡ true
  equal e = says ∙ (func_decides x y).1 e

  pub func_labels : (r ≡ true) ↔ (of_plain (func (core_func_content x).0 (core_func_content x).1) ≡ of_plain (func (core_func_content y).0 (core_func_content y).1))
  func_labels = (λ g. λ i. of_plain (func (one_content g i).0 (one_content g i).1), λ e. equal (both_parts (cc) (cc)))

  pub tag_labels : (r ≡ true) ↔ (of_plain (tag (core_func_content x).0 (core_func_content x).1) ≡ of_plain (tag (core_func_content y).0 (core_func_content y).1))
  tag_labels = (λ g. λ i. of_plain (tag (one_content g i).0 (one_content g i).1), λ e. equal (both_parts (cc) (cc)))
