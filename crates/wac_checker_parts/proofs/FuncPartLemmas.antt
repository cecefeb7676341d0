-- The parts at a place of two functions.
use Rattle.std.proofs.Common.{◌≡◌, ◌<◌, ◌+◌, ◌^◌, ℕ, List, [], ◌∷◌, length, map, Option, Some, None, slice_get, string_bytes, String, Global, refl, ap, sym, subst, ◌∙◌, arith}
use Rattle.std.specs.Str.{bytes_eq}
use Rattle.std.specs.Map.{lookup}
use Rattle.std.specs.Option.{option_map}
use Rattle.std.proofs.lemmas.List.{length-map}
use Rattle.std.proofs.Common.{length-append}
use Rattle.wac_model.specs.Text.{Text}
use Rattle.wac_model.specs.ValueTree.{ValueTree, FuncTree}
use Rattle.wac_model.specs.ItemTree.{Kind, leaf, func}
use Rattle.wac_component.specs.declared.items.ValueType.{ValueType}
use Rattle.wac_component.specs.declared.functions.FuncType.{FuncType}
use Rattle.wac_component.specs.Collection.{Collection}
use Rattle.wac_component.specs.Content.{names, types_of, func_content}
use Rattle.wac_component.specs.Tree.{value_tree, func_content_tree}
use Rattle.wac_component.proofs.Lists.{slice_get-append, slice_get-last, slice_get-map}
use Rattle.wac_mismatch.specs.Place.{item_side}
use Rattle.wac_mismatch.specs.Steps.{IsParameter}
use Rattle.wac_mismatch.specs.declared.frame.Frame.TheVariants as frame
use Rattle.wac_checker_parts.specs.Parts.{func_parts, IsIndex, SamePart, SameBefore, AreAt, IsFrameAt}
use Rattle.wac_checker_parts.proofs.ListLemmas.{same_list}
use Rattle.wac_checker_parts.proofs.FuncLemmas.{params_of, param_at, name_at, length-params, leads_to_param}
use Rattle.wac_checker_parts.proofs.PartLemmas.{pair_of}

-- a parameter is a part, and the result is the last one
param_part : (t : FuncTree) (i : ℕ) (n : Text) (x : ValueTree) → i < length t.params → slice_get t.params i ≡ Some (n, x) → slice_get (func_parts t) i ≡ Some (n, Some x)
param_part t i n x b h =
    let shown : Text × ValueTree → Text × Option ValueTree = λ (p : Text × ValueTree). (p.0, Some p.1) in
    slice_get-append (map shown t.params) (([], t.«result») ∷ []) i (simp length-map b) ∙ slice_get-map shown t.params i ∙ ap (option_map shown) h

result_part : (t : FuncTree) (i : ℕ) → i ≡ length t.params → slice_get (func_parts t) i ≡ Some ([], t.«result»)
result_part t i e =
    let shown : Text × ValueTree → Text × Option ValueTree = λ (p : Text × ValueTree). (p.0, Some p.1) in
    let at : i ≡ length (map shown t.params) = simp length-map e in
    rw at (slice_get-last (map shown t.params) ([], t.«result»))

part_total : (t : FuncTree) → length (func_parts t) ≡ length t.params + 1
part_total t = simp (length-append, length-map) (omega arith)

-- the parameters of two functions at a place
pub params_at : (c d : Collection) (x y : FuncTree) (es fs : List (String Global × ValueType)) (i : ℕ) (n : Text) (v w : ValueType) (k : Kind) → x.params ≡ params_of c es → y.params ≡ params_of d fs → i < length es → i < length fs
    → slice_get (names es) i ≡ Some n → slice_get (names fs) i ≡ Some n → slice_get (types_of es) i ≡ Some v → slice_get (types_of fs) i ≡ Some w → lookup (λ j. bytes_eq n (string_bytes j)) es ≡ Some v → lookup (λ j. bytes_eq n (string_bytes j)) fs ≡ Some w
    → AreAt (item_side (leaf k (func x))) (item_side (leaf k (func y))) i (value_tree c v) (value_tree d w)
params_at c d x y es fs i n v w k xp yp bl br hn kn hv kv hl kl =
    let left_within : i < length x.params = rw xp (omega (arith, length-params c es)) in
    let right_within : i < length y.params = rw yp (omega (arith, length-params d fs)) in (
      n,
      param_part x i n (value_tree c v) left_within (rw xp (param_at c es i n v hn hv)),
      param_part y i n (value_tree d w) right_within (rw yp (param_at d fs i n w kn kv)),
      λ check f is.
          let named = is.0 left_within in
          let here : slice_get (map (λ (p : Text × ValueTree). p.0) x.params) i ≡ Some n = rw xp (name_at c es i n hn) in
          let one : named.0 ≡ n = cc (named.1, here) in
          leads_to_param check c d x y es fs n v w k xp yp hl kl f (subst (λ (m : Text). IsParameter m f) one named.2),
    )

-- their results
pub results_at : (c d : Collection) (x y : FuncTree) (i : ℕ) (v w : ValueType) (k : Kind) → i ≡ length x.params → i ≡ length y.params → x.«result» ≡ Some (value_tree c v) → y.«result» ≡ Some (value_tree d w) → AreAt (item_side (leaf k (func x))) (item_side (leaf k (func y))) i (value_tree c v) (value_tree d w)
results_at c d x y i v w k l r xr yr = (
  [],
  result_part x i l ∙ ap (λ (o : Option ValueTree). Some ([], o)) xr,
  result_part y i r ∙ ap (λ (o : Option ValueTree). Some ([], o)) yr,
  λ check f is.
      let frame_is = is.1 (omega arith) in
      rw frame_is (record { alike = refl; same_check = refl; left = rw xr refl; right = rw yr refl }),
)

pub no_results : (x y : FuncTree) (i : ℕ) (k : Kind) → i ≡ length x.params → i ≡ length y.params → i + 1 < 2 ^ 64 → x.«result» ≡ None → y.«result» ≡ None → IsIndex (item_side (leaf k (func x))) i × SamePart (item_side (leaf k (func x))) (item_side (leaf k (func y))) i
no_results x y i k l r room xr yr = ((omega (arith, part_total x), room), result_part x i l ∙ ap (λ (o : Option ValueTree). Some ([], o)) (xr ∙ sym yr) ∙ sym (result_part y i r))

param_one : (o p : Option (Text × ValueTree)) → option_map (λ (q : Text × ValueTree). let r : Text × Option ValueTree = (q.0, Some q.1) in r) o ≡ option_map (λ (q : Text × ValueTree). let r : Text × Option ValueTree = (q.0, Some q.1) in r) p → o ≡ p
param_one None None h = refl
param_one None (Some y) h = absurd (cc)
param_one (Some x) None h = absurd (cc)
param_one (Some x) (Some y) h =
    let one = pair_of (x.0, Some x.1) (y.0, Some y.1) h in
    let types : Some x.1 ≡ Some y.1 = ap (λ (q : Text × Option ValueTree). q.1) one in
    let type_one : x.1 ≡ y.1 = cc in
    ap Some (λ i. (ap (λ (q : Text × Option ValueTree). q.0) one i, type_one i))

-- two functions with as many parameters whose parts are one up to their end
pub funcs_same : (x y : FuncTree) (i : ℕ) (k : Kind) → x.is_async ≡ y.is_async → length x.params ≡ length y.params → length x.params < i → SameBefore (item_side (leaf k (func x))) (item_side (leaf k (func y))) i → item_side (leaf k (func x)) ≡ item_side (leaf k (func y))
funcs_same x y i k a l b same =
    let shown : Text × ValueTree → Text × Option ValueTree = λ (p : Text × ValueTree). (p.0, Some p.1) in
    let params : x.params ≡ y.params = same_list x.params y.params l (λ j below.
    param_one (slice_get x.params j) (slice_get y.params j)
    (sym (slice_get-append (map shown x.params) (([], x.«result») ∷ []) j (simp length-map below) ∙ slice_get-map shown x.params j) ∙ same j (omega arith) ∙ slice_get-append (map shown y.params) (([], y.«result») ∷ []) j (simp length-map (omega arith)) ∙ slice_get-map shown y.params j)) in
    let results : x.«result» ≡ y.«result» = ap (λ (q : Text × Option ValueTree). q.1) (pair_of ([], x.«result») ([], y.«result») (sym (result_part x (length x.params) refl) ∙ same (length x.params) b ∙ result_part y (length x.params) l)) in
    λ j. item_side (leaf k (func (record { params = params j; «result» = results j; is_async = a j })))

-- the frame to a parameter
pub param_frame_at : (c : Collection) (f : FuncType) (t : FuncTree) (i : ℕ) (n : String Global) → t ≡ func_content_tree c (func_content f) → i < length f.params.entries → slice_get (names f.params.entries) i ≡ Some (string_bytes n) → (k : Kind) → IsFrameAt (item_side (leaf k (func t))) i (frame.Parameter n)
param_frame_at c f t i n e b at k = rw e ((λ _. (string_bytes n, name_at c f.params.entries i (string_bytes n) at, refl)), (λ past. absurd (omega (arith, length-params c f.params.entries))))
