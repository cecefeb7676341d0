-- What the cases of two variants say of the whole.
use Rattle.std.proofs.Common.{◌≡◌, ◌≢◌, ℕ, suc, zero, ◌<◌, List, [], ◌∷◌, ◌++◌, length, map, Option, Some, None, slice_get, string_bytes, String, Global, Bool, true, false, if◌then◌else◌, is_some, refl, ap, sym, ◌∙◌, arith}
use Rattle.std.specs.Str.{bytes_eq}
use Rattle.std.specs.Map.{lookup}
use Rattle.std.specs.List.{flat_map}
use Rattle.std.specs.Option.{option_to_list}
use Rattle.std.proofs.lemmas.List.{length-map}
use Rattle.wac_component.specs.declared.items.ValueType.{ValueType}
use Rattle.wac_model.specs.Text.{Text}
use Rattle.wac_model.specs.ValueTree.{ValueTree, parts_of}
use Rattle.wac_component.specs.Collection.{Collection}
use Rattle.wac_component.specs.Content.{names, types_of, case_types}
use Rattle.wac_component.specs.Key.{AllStand, value_keys}
use Rattle.wac_component.specs.Tree.{value_tree}
use Rattle.wac_component.proofs.Lists.{append_nil}
use Rattle.wac_component.proofs.Members.{AllStand-member}
use Rattle.wac_checker_parts.specs.Content.{variant_side, case_tree}
use Rattle.wac_mismatch.specs.declared.frame.Frame.{Frame}
use Rattle.wac_mismatch.specs.declared.frame.Frame.TheVariants as frame
use Rattle.wac_mismatch.specs.declared.fault.Fault.{Fault}
use Rattle.wac_mismatch.specs.declared.fault.Fault.TheVariants as fault
use Rattle.wac_mismatch.specs.declared.fault.CountOf.TheVariants as count_of
use Rattle.wac_mismatch.specs.declared.fault.NameOf.TheVariants as name_of
use Rattle.wac_mismatch.specs.declared.check.SubtypeCheck.{SubtypeCheck}
use Rattle.wac_mismatch.specs.declared.check.SubtypeCheck.TheVariants.{Covariant, Contravariant}
use Rattle.wac_checker_parts.proofs.ListLemmas.{same_list}
use Rattle.wac_mismatch.specs.Place.{place, by_check, expected_of, value_side}
use Rattle.wac_mismatch.specs.Part.{case_part, sided}
use Rattle.wac_mismatch.specs.Steps.{IsCase, IsCaseType}
use Rattle.wac_mismatch.specs.Holds.{HoldsOfSides, IsOfNames, IsOfVariant}
use Rattle.wac_mismatch.specs.Path.{Leads}

abbrev pub Entries : Type 0
Entries = List (String Global × Option ValueType)

-- the name of a case, and whether it has a type
abbrev pub marks : Entries → List (Text × Bool)
marks es = map (λ (e : String Global × Option ValueType). (string_bytes e.0, is_some e.1)) es

after : (o : Option ValueType) (vs : List ValueType) (v : ValueType) → ((j : ℕ) × (slice_get vs j ≡ Some v)) → (j : ℕ) × (slice_get (option_to_list o ++ vs) j ≡ Some v)
after None vs v h = h
after (Some w) vs v h = (suc h.0, h.1)

-- the type of a case is among the members
pub case_place : (es : Entries) (i : ℕ) (v : ValueType) → slice_get (types_of es) i ≡ Some (Some v) → (j : ℕ) × (slice_get (case_types es) j ≡ Some v)
case_place [] i v h = absurd (cc)
case_place ((k, None) ∷ es) zero v h = absurd (cc)
case_place ((k, Some w) ∷ es) zero v h = let same : w ≡ v = cc in (zero, ap Some same)
case_place ((k, o) ∷ es) (suc i) v h = after o (case_types es) v (case_place es i v h)

-- the part under the name of a case that has a type
case_at : (f : ValueType → ValueTree) (es : Entries) (n : Text) (v : ValueType) → lookup (λ k. bytes_eq n (string_bytes k)) es ≡ Some (Some v) → case_part (marks es) (parts_of (map f (case_types es))) n ≡ Some (f v)
case_at f [] n v h = absurd (cc)
case_at f ((k, None) ∷ es) n v h = untyped (bytes_eq n (string_bytes k)) (case_at f es n v) h
  where
    untyped : (b : Bool) → (lookup (λ j. bytes_eq n (string_bytes j)) es ≡ Some (Some v) → case_part (marks es) (parts_of (map f (case_types es))) n ≡ Some (f v)) → (if b then Some None else lookup (λ j. bytes_eq n (string_bytes j)) es) ≡ Some (Some v) → (if b then None else case_part (marks es) (parts_of (map f (case_types es))) n) ≡ Some (f v)
    untyped true others e = absurd (cc)
    untyped false others e = others e
case_at f ((k, Some w) ∷ es) n v h = typed (bytes_eq n (string_bytes k)) (case_at f es n v) h
  where
    typed : (b : Bool) → (lookup (λ j. bytes_eq n (string_bytes j)) es ≡ Some (Some v) → case_part (marks es) (parts_of (map f (case_types es))) n ≡ Some (f v)) → (if b then Some (Some w) else lookup (λ j. bytes_eq n (string_bytes j)) es) ≡ Some (Some v) → (if b then Some (f w) else case_part (marks es) (parts_of (map f (case_types es))) n) ≡ Some (f v)
    typed true others e = let same : w ≡ v = cc in ap (λ (x : ValueType). Some (f x)) same
    typed false others e = others e

pub leads_to_case : (c : SubtypeCheck) (at bt : Collection) (es1 es2 : Entries) (n : Text) (x y : ValueType) → lookup (λ k. bytes_eq n (string_bytes k)) es1 ≡ Some (Some x) → lookup (λ k. bytes_eq n (string_bytes k)) es2 ≡ Some (Some y) → (f : Frame) → IsCase n f → Leads f (place c (variant_side at es1) (variant_side bt es2)) (place c (value_side (value_tree at x)) (value_side (value_tree bt y)))
leads_to_case c at bt es1 es2 n x y l m (frame.Case k) is =
    record { alike = tt; same_check = refl; left = rw is (ap sided (case_at (value_tree at) es1 n x l)); right = rw is (ap sided (case_at (value_tree bt) es2 n y m)) }
leads_to_case c at bt es1 es2 n x y l m _ is = elim is [ ]

pub marks_names : (es : Entries) → map (λ (p : Text × Bool). p.0) (marks es) ≡ names es
marks_names [] = refl
marks_names (e ∷ es) = ap (λ (ns : List Text). string_bytes e.0 ∷ ns) (marks_names es)

of_names : (f : Fault) (xs ys : List (Text × Bool)) → IsOfNames count_of.Variant name_of.Variant f (map (λ (p : Text × Bool). p.0) xs) (map (λ (p : Text × Bool). p.0) ys) → IsOfVariant f xs ys
of_names (fault.CaseType n e) xs ys h = elim h [ ]
of_names f xs ys h = h

pub names_of_variants : (c : SubtypeCheck) (f : Fault) (xs ys : List (Text × Bool)) (ns ms : List Text) → map (λ (p : Text × Bool). p.0) xs ≡ ns → map (λ (p : Text × Bool). p.0) ys ≡ ms → by_check c (IsOfNames count_of.Variant name_of.Variant f) ns ms → by_check c (IsOfVariant f) xs ys
names_of_variants Covariant f xs ys ns ms l m h = of_names f ys xs (rw (l, m) h)
names_of_variants Contravariant f xs ys ns ms l m h = of_names f xs ys (rw (l, m) h)

pub variants_disagree : (c : SubtypeCheck) (f : Fault) (at bt : Collection) (es1 es2 : Entries) → by_check c (IsOfVariant f) (marks es1) (marks es2) → by_check c (HoldsOfSides f) (variant_side at es1) (variant_side bt es2)
variants_disagree Covariant f at bt es1 es2 h = h
variants_disagree Contravariant f at bt es1 es2 h = h

-- a case at a place, by its name and what it has
pub entry_at : {X : Type 0} (g : Option ValueType → X) (es : Entries) (i : ℕ) (n : Text) (o : Option ValueType) → slice_get (names es) i ≡ Some n → slice_get (types_of es) i ≡ Some o → slice_get {X = Text × X} (map (λ (e : String Global × Option ValueType). (string_bytes e.0, g e.1)) es) i ≡ Some (n, g o)
entry_at g [] i n o l m = absurd (cc)
entry_at g (e ∷ es) zero n o l m =
    let name_same : string_bytes e.0 ≡ n = cc in
    let type_same : e.1 ≡ o = cc in
    rw (name_same, type_same) refl
entry_at g (e ∷ es) (suc i) n o l m = entry_at g es i n o l m

case_type : (f : Fault) (i : ℕ) (n : Text) (x y : Bool) (xs ys : List (Text × Bool)) → x ≢ y → slice_get xs i ≡ Some (n, x) → slice_get ys i ≡ Some (n, y) → IsCaseType f n x → IsOfVariant f xs ys
case_type (fault.CaseType k e) i n x y xs ys ne l m h = (i, x, y, ne, h.1, rw h.0 l, rw h.0 m)
case_type _ i n x y xs ys ne l m h = elim h [ ]

pub case_refuse : (c : SubtypeCheck) (f : Fault) (i : ℕ) (n : Text) (x y : Bool) (xs ys : List (Text × Bool)) → x ≢ y → slice_get xs i ≡ Some (n, x) → slice_get ys i ≡ Some (n, y) → IsCaseType f n (expected_of c x y) → by_check c (IsOfVariant f) xs ys
case_refuse Covariant f i n x y xs ys ne l m h = case_type f i n y x ys xs (λ e. ne (sym e)) m l h
case_refuse Contravariant f i n x y xs ys ne l m h = case_type f i n x y xs ys ne l m h

-- the trees of the cases that have one
abbrev present : List (Text × Option ValueTree) → List ValueTree
present [] = []
present (p ∷ ps) = option_to_list p.1 ++ present ps

marks_of_trees : (c : Collection) (es : Entries) → map (λ (p : Text × Option ValueTree). (p.0, is_some p.1)) (map (case_tree c) es) ≡ marks es
marks_of_trees c [] = refl
marks_of_trees c ((k, None) ∷ es) = ap (λ (ms : List (Text × Bool)). (string_bytes k, false) ∷ ms) (marks_of_trees c es)
marks_of_trees c ((k, Some v) ∷ es) = ap (λ (ms : List (Text × Bool)). (string_bytes k, true) ∷ ms) (marks_of_trees c es)

present_trees : (c : Collection) (es : Entries) → present (map (case_tree c) es) ≡ map (value_tree c) (case_types es)
present_trees c [] = refl
present_trees c ((k, None) ∷ es) = present_trees c es
present_trees c ((k, Some v) ∷ es) = ap (λ (ts : List ValueTree). value_tree c v ∷ ts) (present_trees c es)

-- two variants whose cases are one
pub variants_one : (at bt : Collection) (es1 es2 : Entries) → map (case_tree at) es1 ≡ map (case_tree bt) es2 → variant_side at es1 ≡ variant_side bt es2
variants_one at bt es1 es2 one =
    let one_marks : marks es1 ≡ marks es2 = sym (marks_of_trees at es1) ∙ ap (map (λ (p : Text × Option ValueTree). (p.0, is_some p.1))) one ∙ marks_of_trees bt es2 in
    let one_trees : map (value_tree at) (case_types es1) ≡ map (value_tree bt) (case_types es2) = sym (present_trees at es1) ∙ ap present one ∙ present_trees bt es2 in
    rw (one_marks, one_trees) refl

-- two variants of one size whose cases agree at each place
pub same_variants : (at bt : Collection) (es1 es2 : Entries) (n : ℕ) → length es1 ≡ length es2 → ((k : ℕ) → k < n → slice_get (map (case_tree at) es1) k ≡ slice_get (map (case_tree bt) es2) k) → length es1 ≡ n → variant_side at es1 ≡ variant_side bt es2
same_variants at bt es1 es2 n l h m =
    let one : map (case_tree at) es1 ≡ map (case_tree bt) es2 = same_list (map (case_tree at) es1) (map (case_tree bt) es2) (simp length-map l) (λ k b. h k (let below : k < length es1 = simp length-map at b in omega arith)) in
    variants_one at bt es1 es2 one

-- the type of a case stands where all types of cases do, and is no higher
pub case_stands : (c : Collection) (es : Entries) (i : ℕ) (o : Option ValueType) → slice_get (types_of es) i ≡ Some o → AllStand c (flat_map value_keys (case_types es)) → AllStand c (flat_map value_keys (option_to_list o))
case_stands c es i None at h = tt
case_stands c es i (Some v) at h = let place = case_place es i v at in rw (append_nil (value_keys v)) (AllStand-member c (case_types es) place.0 v place.1 h)
