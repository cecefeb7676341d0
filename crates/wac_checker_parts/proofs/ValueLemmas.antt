-- What the members of two value types say of the whole.
use Rattle.std.proofs.Common.{◌≡◌, ℕ, suc, zero, ◌<◌, List, [], ◌∷◌, length, map, Some, slice_get, string_bytes, String, Global, Bool, true, false, if◌then◌else◌, refl, ap, arith}
use Rattle.std.specs.Str.{bytes_eq}
use Rattle.std.specs.Map.{lookup}
use Rattle.std.proofs.lemmas.List.{length-map}
use Rattle.wac_component.specs.declared.items.ValueType.{ValueType}
use Rattle.wac_model.specs.Text.{Text}
use Rattle.wac_model.specs.ValueTree.{ValueTree, ValueTrees, node, parts_of, part_at, tuple, record_of, part_count}
use Rattle.wac_component.proofs.Lists.{slice_get-map}
use Rattle.wac_component.specs.Collection.{Collection}
use Rattle.wac_component.specs.Content.{names, types_of}
use Rattle.wac_component.specs.Tree.{value_tree}
use Rattle.wac_checker_parts.specs.Content.{composed_side}
use Rattle.wac_mismatch.specs.declared.frame.Frame.{Frame}
use Rattle.wac_mismatch.specs.declared.frame.Frame.TheVariants as frame
use Rattle.wac_mismatch.specs.declared.fault.Fault.{Fault}
use Rattle.wac_mismatch.specs.declared.fault.CountOf.TheVariants as count_of
use Rattle.wac_mismatch.specs.declared.check.SubtypeCheck.{SubtypeCheck}
use Rattle.wac_mismatch.specs.declared.check.SubtypeCheck.TheVariants.{Covariant, Contravariant}
use Rattle.wac_checker_parts.proofs.ListLemmas.{same_list}
use Rattle.wac_mismatch.specs.Place.{place, by_check, value_side}
use Rattle.wac_mismatch.specs.Part.{field_part, sided}
use Rattle.wac_mismatch.specs.Steps.{IsField}
use Rattle.wac_mismatch.specs.Holds.{HoldsOfSides, IsCount}
use Rattle.wac_mismatch.specs.Path.{Leads}

pub part_count-parts_of : (f : ValueType → ValueTree) (vs : List ValueType) → part_count (parts_of (map f vs)) ≡ length vs
part_count-parts_of f [] = refl
part_count-parts_of f (v ∷ vs) = ap suc (part_count-parts_of f vs)

-- the part at a place is the tree of the member there
pub tree_at : (f : ValueType → ValueTree) (vs : List ValueType) (i : ℕ) (v : ValueType) → slice_get vs i ≡ Some v → part_at (parts_of (map f vs)) i ≡ Some (f v)
tree_at f [] i v e = absurd (cc)
tree_at f (x ∷ vs) zero v e = let same : x ≡ v = cc in ap (λ (w : ValueType). Some (f w)) same
tree_at f (x ∷ vs) (suc i) v e = tree_at f vs i v e

-- members at a place whose trees are one
pub same_at : (f g : ValueType → ValueTree) (vs ws : List ValueType) (i : ℕ) (v w : ValueType) → slice_get vs i ≡ Some v → slice_get ws i ≡ Some w → f v ≡ g w → slice_get (map f vs) i ≡ slice_get (map g ws) i
same_at f g vs ws i v w is-v is-w same = rw (slice_get-map f vs i, slice_get-map g ws i, is-v, is-w) (ap Some same)

-- members whose trees agree at each place
pub same_members : (f g : ValueType → ValueTree) (vs1 vs2 : List ValueType) (n : ℕ) → length vs1 ≡ length vs2 → ((k : ℕ) → k < n → slice_get (map f vs1) k ≡ slice_get (map g vs2) k) → length vs1 ≡ n → map f vs1 ≡ map g vs2
same_members f g vs1 vs2 n l h m =
    same_list (map f vs1) (map g vs2) (simp length-map l) (λ k b. h k (let below : k < length vs1 = simp length-map at b in omega arith))

pub tuple_counts : (c : SubtypeCheck) (f : Fault) (ts us : ValueTrees) (m n : ℕ) → part_count ts ≡ m → part_count us ≡ n → by_check c (IsCount count_of.Tuple f) m n → by_check c (HoldsOfSides f) (value_side (node tuple ts)) (value_side (node tuple us))
tuple_counts Covariant f ts us m n e g h = rw (e, g) h
tuple_counts Contravariant f ts us m n e g h = rw (e, g) h

field_at : (f : ValueType → ValueTree) (es : List (String Global × ValueType)) (n : Text) (v : ValueType) → lookup (λ k. bytes_eq n (string_bytes k)) es ≡ Some v → field_part (names es) (parts_of (map f (types_of es))) n ≡ Some (f v)
field_at f [] n v e = absurd (cc)
field_at f (x ∷ es) n v e = at_first (bytes_eq n (string_bytes x.0)) (field_at f es n v) e
  where
    at_first : (b : Bool) → (lookup (λ k. bytes_eq n (string_bytes k)) es ≡ Some v → field_part (names es) (parts_of (map f (types_of es))) n ≡ Some (f v)) → (if b then Some x.1 else lookup (λ k. bytes_eq n (string_bytes k)) es) ≡ Some v → (if b then Some (f x.1) else field_part (names es) (parts_of (map f (types_of es))) n) ≡ Some (f v)
    at_first true others h = let same : x.1 ≡ v = cc in ap (λ (w : ValueType). Some (f w)) same
    at_first false others h = others h

pub leads_to_field : (c : SubtypeCheck) (at bt : Collection) (vs1 vs2 : List (String Global × ValueType)) (n : Text) (x y : ValueType) → lookup (λ k. bytes_eq n (string_bytes k)) vs1 ≡ Some x → lookup (λ k. bytes_eq n (string_bytes k)) vs2 ≡ Some y → (f : Frame) → IsField n f → Leads f (place c (composed_side at (record_of (names vs1)) (types_of vs1)) (composed_side bt (record_of (names vs2)) (types_of vs2))) (place c (value_side (value_tree at x)) (value_side (value_tree bt y)))
leads_to_field c at bt vs1 vs2 n x y l m (frame.Field k) is =
    record { alike = tt; same_check = refl; left = rw is (ap sided (field_at (value_tree at) vs1 n x l)); right = rw is (ap sided (field_at (value_tree bt) vs2 n y m)) }
leads_to_field c at bt vs1 vs2 n x y l m _ is = elim is [ ]

-- two tuples of one size whose items agree at each place
pub same_items : (at bt : Collection) (vs1 vs2 : List ValueType) (n : ℕ) → length vs1 ≡ length vs2 → ((k : ℕ) → k < n → slice_get (map (value_tree at) vs1) k ≡ slice_get (map (value_tree bt) vs2) k) → length vs1 ≡ n → composed_side at tuple vs1 ≡ composed_side bt tuple vs2
same_items at bt vs1 vs2 n l h m = ap (λ (ts : List ValueTree). value_side (node tuple (parts_of ts))) (same_members (value_tree at) (value_tree bt) vs1 vs2 n l h m)

-- two records of one size whose names and types agree at each place
pub same_records : (at bt : Collection) (es1 es2 : List (String Global × ValueType)) (n : ℕ) → length es1 ≡ length es2 → ((k : ℕ) → k < n → slice_get (names es1) k ≡ slice_get (names es2) k) → ((k : ℕ) → k < n → slice_get (map (value_tree at) (types_of es1)) k ≡ slice_get (map (value_tree bt) (types_of es2)) k) → length es1 ≡ n → composed_side at (record_of (names es1)) (types_of es1) ≡ composed_side bt (record_of (names es2)) (types_of es2)
same_records at bt es1 es2 n l h g m =
    let one_list : names es1 ≡ names es2 = same_list (names es1) (names es2) (simp length-map l) (λ k b. h k (let below : k < length es1 = simp length-map at b in omega arith)) in
    let one_trees : map (value_tree at) (types_of es1) ≡ map (value_tree bt) (types_of es2) = same_members (value_tree at) (value_tree bt) (types_of es1) (types_of es2) n (simp length-map l) g (simp length-map m) in
    rw (one_list, one_trees) refl
