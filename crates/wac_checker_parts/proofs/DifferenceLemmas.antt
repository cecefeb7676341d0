-- Differences: their faults hold of the two that differ in them.
use Rattle.std.proofs.Common.{◌≡◌, ◌≢◌, inl, inr, IsTrue, ℕ, List, map, length, Bool, true, false, not, Option, Some, is_some, slice_get, string_bytes, String, Global, Bor, refl, ap, ap₂, sym, subst, subst₂, ◌∙◌}
use Rattle.std.specs.Prelude.{◌↔◌}
use Rattle.std.specs.String.{string_eq}
use Rattle.wac_model.specs.Text.{Text}
use Rattle.wac_model.specs.Desc.{value_desc}
use Rattle.wac_model.specs.ValueTree.{ValueTree, ValueTrees, FuncTree, node, parts_of, primitive, borrow, own, tuple, list, fixed_size_list, map_of, option, result_of, variant, record_of, flags, enum, stream, future}
use Rattle.wac_model.specs.ItemTree.{Kind, leaf, func}
use Rattle.wac_component.specs.Id.{Id}
use Rattle.wac_component.specs.Collection.{Collection}
use Rattle.wac_component.specs.Content.{names, types_of}
use Rattle.wac_component.specs.Tree.{value_tree, IsCompound, IsResolved}
use Rattle.wac_component.specs.declared.items.ValueType.{ValueType}
use Rattle.wac_component.specs.declared.items.ValueType.TheVariants.{Primitive, Borrow, Own, Defined}
use Rattle.wac_mismatch.specs.Difference.{AreNamesOf, DifferIn, IsFaultOf}
use Rattle.wac_mismatch.specs.Holds.{HoldsOfSides, HoldsOfValues, IsCount, IsKindFault, IsOfFunc, IsOfNames, IsResource}
use Rattle.wac_mismatch.specs.Place.{value_side, item_side, by_check, expected_of, found_of}
use Rattle.wac_mismatch.specs.declared.check.SubtypeCheck.{SubtypeCheck}
use Rattle.wac_mismatch.specs.declared.check.SubtypeCheck.TheVariants.{Covariant, Contravariant}
use Rattle.wac_mismatch.specs.declared.fault.CountOf.{CountOf}
use Rattle.wac_mismatch.specs.declared.fault.CountOf.TheVariants as count_of
use Rattle.wac_mismatch.specs.declared.fault.NameOf.TheVariants as name_of
use Rattle.wac_mismatch.specs.declared.fault.ResultPart.TheVariants as result_part
use Rattle.wac_mismatch.specs.declared.fault.Fault.{Fault}
use Rattle.wac_mismatch.specs.declared.fault.Fault.TheVariants as fault
use Rattle.wac_checker_parts.specs.Content.{composed_side, result_side, variant_side}
use Rattle.wac_checker_parts.specs.Items.{AreOtherKinds, case_number}
use Rattle.wac_checker_parts.specs.Listing.{AreLeavesApart, AreOtherLeaves, AreRoots}
use Rattle.wac_mismatch.specs.declared.difference.Difference.{Difference}
use Rattle.wac_mismatch.specs.declared.difference.Difference.TheVariants as difference
use Rattle.wac_checker_parts.proofs.NameLemmas.{same_text, other_text}
use Rattle.wac_checker_parts.proofs.ValueLemmas.{part_count-parts_of, tuple_counts}
use Rattle.wac_checker_parts.proofs.CaseLemmas.{marks, marks_names, entry_at, case_refuse, names_of_variants, variants_disagree}
use Rattle.wac_checker_parts.proofs.FuncLemmas.{params_of, name_at, param_refuse, funcs_disagree}
use Rattle.wac_checker_parts.proofs.PartLemmas.{ok_disagrees, err_disagrees}

-- ---- names

pub one_name : (x y : String Global) (n m : Text) (b : Bool) → string_bytes x ≡ n → string_bytes y ≡ m → b ≡ string_eq x y → IsTrue b ↔ (n ≡ m)
one_name x y n m true l r e = (λ yes. sym l ∙ same_text x y (not true) (ap not e) refl ∙ r, λ same. refl)
one_name x y n m false l r e = (λ yes. absurd (cc (yes)), λ same. absurd (other_text x y (not false) (ap not e) refl (l ∙ same ∙ sym r)))

resource_at : (f : Fault) (x y : Text) → x ≢ y → AreNamesOf f x y → IsResource f x y
resource_at (fault.Resource e g) x y ne h = (ne, h.0, h.1)
resource_at _ x y ne h = elim h [ ]

pub resource_by : (c : SubtypeCheck) (f : Fault) (x y : Text) → x ≢ y → AreNamesOf f (expected_of c x y) (found_of c x y) → by_check c (IsResource f) x y
resource_by Covariant f x y ne h = resource_at f y x (λ e. ne (sym e)) h
resource_by Contravariant f x y ne h = resource_at f x y ne h

roots_by : (x : Difference) (c : SubtypeCheck) (f : Fault) (n m : Text) → n ≢ m → AreRoots x n m → IsFaultOf c x f → by_check c (IsResource f) n m
roots_by (difference.Resources a b) c f n m ne roots is = resource_by c f n m ne (subst₂ (λ (x y : Text). AreNamesOf f (expected_of c x y) (found_of c x y)) roots.0 roots.1 is)
roots_by _ c f n m ne roots is = elim roots [ ]

-- ---- kinds

kinds_hold : (f : Fault) (s t : ValueTree) → AreOtherKinds s t → IsKindFault f (value_desc s) (value_desc t) → HoldsOfValues f s t
kinds_hold f (node (primitive p) ts) (node (primitive q) us) ne h = absurd (ne refl)
kinds_hold f (node (borrow r) ts) (node (borrow s) us) ne h = absurd (ne refl)
kinds_hold f (node (own r) ts) (node (own s) us) ne h = absurd (ne refl)
kinds_hold f (node tuple ts) (node tuple us) ne h = absurd (ne refl)
kinds_hold f (node list ts) (node list us) ne h = absurd (ne refl)
kinds_hold f (node (fixed_size_list m) ts) (node (fixed_size_list n) us) ne h = absurd (ne refl)
kinds_hold f (node map_of ts) (node map_of us) ne h = absurd (ne refl)
kinds_hold f (node option ts) (node option us) ne h = absurd (ne refl)
kinds_hold f (node (result_of o e) ts) (node (result_of o' e') us) ne h = absurd (ne refl)
kinds_hold f (node (variant xs) ts) (node (variant ys) us) ne h = absurd (ne refl)
kinds_hold f (node (record_of xs) ts) (node (record_of ys) us) ne h = absurd (ne refl)
kinds_hold f (node (flags xs) ts) (node (flags ys) us) ne h = absurd (ne refl)
kinds_hold f (node (enum xs) ts) (node (enum ys) us) ne h = absurd (ne refl)
kinds_hold f (node (stream p) ts) (node (stream q) us) ne h = absurd (ne refl)
kinds_hold f (node (future p) ts) (node (future q) us) ne h = absurd (ne refl)
kinds_hold f s t ne h = h

kinds_by : (c : SubtypeCheck) (f : Fault) (s t : ValueTree) → AreOtherKinds s t → IsKindFault f (expected_of c (value_desc s) (value_desc t)) (found_of c (value_desc s) (value_desc t)) → by_check c (HoldsOfSides f) (value_side s) (value_side t)
kinds_by Covariant f s t ne h = kinds_hold f t s (λ e. ne (sym e)) h
kinds_by Contravariant f s t ne h = kinds_hold f s t ne h

-- leaves of one case that aren't handles of one sort
leaves_hold : (f : Fault) (s t : ValueTree) → ((n m : Text) (ts us : ValueTrees) → s ≡ node (borrow n) ts → t ≡ node (borrow m) us → ⊥) → ((n m : Text) (ts us : ValueTrees) → s ≡ node (own n) ts → t ≡ node (own m) us → ⊥) → AreOtherLeaves s t → IsKindFault f (value_desc s) (value_desc t) → HoldsOfValues f s t
leaves_hold f (node (primitive p) ts) (node (primitive q) us) nb nw ne h = (ne, h)
leaves_hold f (node (borrow r) ts) (node (borrow s) us) nb nw ne h = absurd (nb r s ts us refl refl)
leaves_hold f (node (own r) ts) (node (own s) us) nb nw ne h = absurd (nw r s ts us refl refl)
leaves_hold f _ _ nb nw ne h = elim ne [ ]

other_leaves_sym : (s t : ValueTree) → AreOtherLeaves s t → AreOtherLeaves t s
other_leaves_sym (node (primitive p) ts) (node (primitive q) us) ne = λ e. ne (sym e)
other_leaves_sym (node (borrow r) ts) (node (borrow s) us) ne = λ e. ne (sym e)
other_leaves_sym (node (own r) ts) (node (own s) us) ne = λ e. ne (sym e)
other_leaves_sym _ _ ne = elim ne [ ]

module _ (s t : ValueTree) (nb : (n m : Text) (ts us : ValueTrees) → s ≡ node (borrow n) ts → t ≡ node (borrow m) us → ⊥) (nw : (n m : Text) (ts us : ValueTrees) → s ≡ node (own n) ts → t ≡ node (own m) us → ⊥) where
  leaves_by : (c : SubtypeCheck) (f : Fault) → AreOtherLeaves s t → IsKindFault f (expected_of c (value_desc s) (value_desc t)) (found_of c (value_desc s) (value_desc t)) → by_check c (HoldsOfSides f) (value_side s) (value_side t)
  leaves_by Covariant f ne h = leaves_hold f t s (λ n m ts us x y. nb m n us ts y x) (λ n m ts us x y. nw m n us ts y x) (other_leaves_sym s t ne) h
  leaves_by Contravariant f ne h = leaves_hold f s t nb nw ne h

  pub leaves_differ : (a b : Bor (List ℕ)) → a.now ≡ value_desc s → b.now ≡ value_desc t → AreLeavesApart s t → DifferIn (difference.Kinds a b) (value_side s) (value_side t)
  leaves_differ a b l r apart c f is =
      let here = subst₂ (λ (x y : Text). IsKindFault f (expected_of c x y) (found_of c x y)) l r is in
      elim apart [ inl ne ↦ inl (kinds_by c f s t ne here) | inr ne ↦ inl (leaves_by c f ne here) ]

-- and differ
leaf_not_one : (s : ValueTree) → AreOtherLeaves s s → ⊥
leaf_not_one (node (primitive p) ts) ne = ne refl
leaf_not_one (node (borrow r) ts) ne = ne refl
leaf_not_one (node (own r) ts) ne = ne refl
leaf_not_one _ ne = elim ne [ ]

pub leaves_not_one : (s t : ValueTree) → AreLeavesApart s t → s ≢ t
leaves_not_one s t (inl ne) same = ne (ap case_number same)
leaves_not_one s t (inr ne) same = leaf_not_one t (subst (λ (x : ValueTree). AreOtherLeaves x t) same ne)

-- a value type that is no alias and no handle, by its case, has no such tree
pub not_borrow : (c : Collection) (v : ValueType) → IsResolved c v → ((x : Id) → v ≡ Borrow x → ⊥) → (n : Text) (ts : ValueTrees) → value_tree c v ≡ node (borrow n) ts → ⊥
not_borrow c (Primitive p) res nw n ts e = absurd (cc)
not_borrow c (Borrow x) res nw n ts e = nw x refl
not_borrow c (Own x) res nw n ts e = absurd (cc)
not_borrow c (Defined x) res nw n ts e = subst IsCompound e res.1

pub not_own : (c : Collection) (v : ValueType) → IsResolved c v → ((x : Id) → v ≡ Own x → ⊥) → (n : Text) (ts : ValueTrees) → value_tree c v ≡ node (own n) ts → ⊥
not_own c (Primitive p) res nw n ts e = absurd (cc)
not_own c (Borrow x) res nw n ts e = absurd (cc)
not_own c (Own x) res nw n ts e = nw x refl
not_own c (Defined x) res nw n ts e = subst IsCompound e res.1

-- two value types that are no aliases and of different cases
abbrev pub value_case : ValueType → ℕ
value_case (Primitive p) = 0
value_case (Borrow x) = 1
value_case (Own x) = 2
value_case (Defined x) = 3

-- ---- counts and names

count_by : (o : CountOf) (c : SubtypeCheck) (f : Fault) (m n : ℕ) → m ≢ n → f ≡ fault.Count o (expected_of c m n) (found_of c m n) → by_check c (IsCount o f) m n
count_by o Covariant f m n ne is = rw is (refl, (λ e. ne (sym e)), refl, refl)
count_by o Contravariant f m n ne is = rw is (refl, ne, refl, refl)

pub tuples_differ : (c d : Collection) (vs ws : List ValueType) → length vs ≢ length ws → DifferIn (difference.Count count_of.Tuple (length vs) (length ws)) (composed_side c tuple vs) (composed_side d tuple ws)
tuples_differ c d vs ws ne k f is = inl (tuple_counts k f (parts_of (map (value_tree c) vs)) (parts_of (map (value_tree d) ws)) (length vs) (length ws) (part_count-parts_of (value_tree c) vs) (part_count-parts_of (value_tree d) ws) (count_by count_of.Tuple k f (length vs) (length ws) ne is))

pub variants_by : (c d : Collection) (es fs : List (String Global × Option ValueType)) (k : SubtypeCheck) (f : Fault) → by_check k (IsOfNames count_of.Variant name_of.Variant f) (names es) (names fs) → by_check k (HoldsOfSides f) (variant_side c es) (variant_side d fs)
variants_by c d es fs k f h = variants_disagree k f c d es fs (names_of_variants k f (marks es) (marks fs) (names es) (names fs) (marks_names es) (marks_names fs) h)

pub flags_by : (xs ys : List Text) (ts us : ValueTrees) (k : SubtypeCheck) (f : Fault) → by_check k (IsOfNames count_of.Flags name_of.Flags f) xs ys → by_check k (HoldsOfSides f) (value_side (node (flags xs) ts)) (value_side (node (flags ys) us))
flags_by xs ys ts us Covariant f h = h
flags_by xs ys ts us Contravariant f h = h

pub enums_by : (xs ys : List Text) (ts us : ValueTrees) (k : SubtypeCheck) (f : Fault) → by_check k (IsOfNames count_of.Enum name_of.Enum f) xs ys → by_check k (HoldsOfSides f) (value_side (node (enum xs) ts)) (value_side (node (enum ys) us))
enums_by xs ys ts us Covariant f h = h
enums_by xs ys ts us Contravariant f h = h

-- two cases of which one has a type
pub case_types_differ : (c d : Collection) (es fs : List (String Global × Option ValueType)) (i : ℕ) (n : Bor (String Global)) (o p : Option ValueType) → is_some o ≢ is_some p → slice_get (names es) i ≡ Some (string_bytes n.now) → slice_get (names fs) i ≡ Some (string_bytes n.now) → slice_get (types_of es) i ≡ Some o → slice_get (types_of fs) i ≡ Some p → DifferIn (difference.CaseType n (is_some o) (is_some p)) (variant_side c es) (variant_side d fs)
case_types_differ c d es fs i n o p ne l m lt mt k f is = inl (variants_disagree k f c d es fs (case_refuse k f i (string_bytes n.now) (is_some o) (is_some p) (marks es) (marks fs) ne (entry_at is_some es i (string_bytes n.now) o l lt) (entry_at is_some fs i (string_bytes n.now) p m mt) is))

sizes_by : (c : SubtypeCheck) (f : Fault) (m n : ℕ) (ts us : ValueTrees) → m ≢ n → f ≡ fault.FixedSize → by_check c (HoldsOfSides f) (value_side (node (fixed_size_list m) ts)) (value_side (node (fixed_size_list n) us))
sizes_by Covariant f m n ts us ne is = rw is (λ e. ne (sym e))
sizes_by Contravariant f m n ts us ne is = rw is ne

pub sizes_differ : (m n : ℕ) (ts us : ValueTrees) → m ≢ n → DifferIn difference.FixedSize (value_side (node (fixed_size_list m) ts)) (value_side (node (fixed_size_list n) us))
sizes_differ m n ts us ne c f is = inl (sizes_by c f m n ts us ne is)

pub oks_differ : (c d : Collection) (o o' e e' : Option ValueType) → is_some o ≢ is_some o' → DifferIn (difference.ResultPart result_part.Ok (is_some o) (is_some o')) (result_side c o e) (result_side d o' e')
oks_differ c d o o' e e' ne k f is = rw is (inl (ok_disagrees k c d o o' e e' ne))

pub errs_differ : (c d : Collection) (o o' e e' : Option ValueType) → is_some e ≢ is_some e' → DifferIn (difference.ResultPart result_part.Err (is_some e) (is_some e')) (result_side c o e) (result_side d o' e')
errs_differ c d o o' e e' ne k f is = rw is (inl (err_disagrees k c d o o' e e' ne))

-- ---- functions

async_by : (c : SubtypeCheck) (f : Fault) (x y : FuncTree) → x.is_async ≢ y.is_async → f ≡ fault.Async (expected_of c x.is_async y.is_async) → by_check c (IsOfFunc f) x y
async_by Covariant f x y ne is = rw is ((λ e. ne (sym e)), refl)
async_by Contravariant f x y ne is = rw is (ne, refl)

params_by : (c : SubtypeCheck) (f : Fault) (x y : FuncTree) → length x.params ≢ length y.params → f ≡ fault.ParamCount (expected_of c (length x.params) (length y.params)) (found_of c (length x.params) (length y.params)) → by_check c (IsOfFunc f) x y
params_by Covariant f x y ne is = rw is ((λ e. ne (sym e)), refl, refl)
params_by Contravariant f x y ne is = rw is (ne, refl, refl)

result_by : (c : SubtypeCheck) (f : Fault) (x y : FuncTree) → is_some x.«result» ≢ is_some y.«result» → f ≡ fault.FuncResult (expected_of c (is_some x.«result») (is_some y.«result»)) → by_check c (IsOfFunc f) x y
result_by Covariant f x y ne is = rw is ((λ e. ne (sym e)), refl)
result_by Contravariant f x y ne is = rw is (ne, refl)

pub asyncs_differ : (k : Kind) (x y : FuncTree) (a b : Bool) → a ≡ x.is_async → b ≡ y.is_async → a ≢ b → DifferIn (difference.Async a b) (item_side (leaf k (func x))) (item_side (leaf k (func y)))
asyncs_differ k x y a b l r ne c f is = inl (funcs_disagree c f k x y (async_by c f x y (λ e. ne (l ∙ e ∙ sym r)) (is ∙ ap₂ (λ (p q : Bool). fault.Async (expected_of c p q)) l r)))

pub param_counts_differ : (k : Kind) (x y : FuncTree) (m n : ℕ) → m ≡ length x.params → n ≡ length y.params → m ≢ n → DifferIn (difference.ParamCount m n) (item_side (leaf k (func x))) (item_side (leaf k (func y)))
param_counts_differ k x y m n l r ne c f is = inl (funcs_disagree c f k x y (params_by c f x y (λ e. ne (l ∙ e ∙ sym r)) (is ∙ ap₂ (λ (p q : ℕ). fault.ParamCount (expected_of c p q) (found_of c p q)) l r)))

pub func_results_differ : (k : Kind) (x y : FuncTree) (a b : Bool) → a ≡ is_some x.«result» → b ≡ is_some y.«result» → a ≢ b → DifferIn (difference.FuncResult a b) (item_side (leaf k (func x))) (item_side (leaf k (func y)))
func_results_differ k x y a b l r ne c f is = inl (funcs_disagree c f k x y (result_by c f x y (λ e. ne (l ∙ e ∙ sym r)) (is ∙ ap₂ (λ (p q : Bool). fault.FuncResult (expected_of c p q)) l r)))

pub param_names_differ : (k : Kind) (c d : Collection) (x y : FuncTree) (es fs : List (String Global × ValueType)) (i : ℕ) (a b : Bor (String Global)) → x.params ≡ params_of c es → y.params ≡ params_of d fs → string_bytes a.now ≢ string_bytes b.now → slice_get (names es) i ≡ Some (string_bytes a.now) → slice_get (names fs) i ≡ Some (string_bytes b.now) → DifferIn (difference.ParamName i a b) (item_side (leaf k (func x))) (item_side (leaf k (func y)))
param_names_differ k c d x y es fs i a b xp yp ne l s check f is = inl (funcs_disagree check f k x y (param_refuse check f i (string_bytes a.now) (string_bytes b.now) x y ne (rw xp (name_at c es i (string_bytes a.now) l)) (rw yp (name_at d fs i (string_bytes b.now) s)) is))
