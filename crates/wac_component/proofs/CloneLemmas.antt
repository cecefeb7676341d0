-- Entries that are clones of others, one by one, show what those show.
use Rattle.std.proofs.Common.{◌≡◌, refl, ap, List, [], ◌∷◌, ◌++◌, Option, Some, None, map, is_some, String, Global, string_bytes}
use Rattle.std.proofs.lemmas.Simd.{map-map}
use Rattle.std.specs.List.{AllZip, flat_map}
use Rattle.std.specs.Option.{option_map, option_to_list}
use Rattle.indexmap.specs.IndexMap.{IndexMap, IsClone}
use Rattle.wac_component.specs.Content.{named, names, types_of, case_types, cases_of, fields_of, defined_content}
use Rattle.wac_component.specs.declared.defined.DefinedType.TheVariants.{Variant as VariantType, Record as RecordType}
use Rattle.wac_component.specs.declared.defined.Record.{Record}
use Rattle.wac_component.specs.declared.defined.Variant.{Variant}
use Rattle.wac_component.specs.declared.items.ValueType.{ValueType}

-- a map's clone shows what the map does: D relates a value and its
-- clone, and f is what a value shows
pub named-clones : {V W S : Type 0} {D : V → V → Type 0} (f : V → W) → ((v w : V) → D v w → f w ≡ f v)
    → (m n : IndexMap (String Global) V S) → IsClone (λ s t. string_bytes t ≡ string_bytes s) D m n → named f n.entries ≡ named f m.entries
named-clones {V} {D = D} f same m n z = step m.entries n.entries z where
  step : (es fs : List (String Global × V)) → AllZip (λ p q. (string_bytes q.0 ≡ string_bytes p.0) × D p.1 q.1) es fs → named f fs ≡ named f es
  step [] [] z = refl
  step [] (q ∷ fs) z = absurd z
  step (p ∷ es) [] z = absurd z
  step (p ∷ es) (q ∷ fs) z = rw (z.0.0, same p.1 q.1 z.0.1, step es fs z.1) refl

-- the clones of texts are the same texts
pub texts-clones : (ks ls : List (String Global)) → AllZip (λ k l. string_bytes l ≡ string_bytes k) ks ls → map string_bytes ls ≡ map string_bytes ks
texts-clones [] [] z = refl
texts-clones [] (l ∷ ls) z = absurd z
texts-clones (k ∷ ks) [] z = absurd z
texts-clones (k ∷ ks) (l ∷ ls) z = rw (z.0, texts-clones ks ls z.1) refl

-- what a map shows of its entries follows from the names with their values
names-named : {V : Type 0} (es : List (String Global × V)) → names es ≡ map (λ e. e.0) (named (λ v. v) es)
names-named es = simp map-map

types_of-named : {V : Type 0} (es : List (String Global × V)) → types_of es ≡ map (λ e. e.1) (named (λ v. v) es)
types_of-named es = simp map-map

named-is_some : {V : Type 0} (es : List (String Global × Option V)) → named is_some es ≡ map (λ e. (e.0, is_some e.1)) (named (λ t. t) es)
named-is_some es = simp map-map

case_types-named : (es : List (String Global × Option ValueType)) → case_types es ≡ flat_map (λ e. option_to_list e.1) (named (λ t. t) es)
case_types-named [] = refl
case_types-named (e ∷ es) = ap (λ ts. option_to_list e.1 ++ ts) (case_types-named es)

-- an option and its clone, where D relates a value and its clone
abbrev pub IsOptionClone : {V : Type 0} → (V → V → Type 0) → Option V → Option V → Type 0
IsOptionClone D None None = Unit {0}
IsOptionClone D None (Some w) = ⊥
IsOptionClone D (Some v) None = ⊥
IsOptionClone D (Some v) (Some w) = D v w

-- an option's clone shows what the option does
pub option_map-clone : {V W : Type 0} {D : V → V → Type 0} (f : V → W) → ((v w : V) → D v w → f w ≡ f v)
    → (o r : Option V) → IsOptionClone D o r → option_map f r ≡ option_map f o
option_map-clone f same None None z = refl
option_map-clone f same None (Some w) z = absurd z
option_map-clone f same (Some v) None z = absurd z
option_map-clone f same (Some v) (Some w) z = ap (λ x. Some x) (same v w z)

-- an option's clone is the option, where a value's clone is the value
pub option-clone : {V : Type 0} (o r : Option V) → IsOptionClone (λ v w. w ≡ v) o r → r ≡ o
option-clone None None z = refl
option-clone None (Some w) z = absurd z
option-clone (Some v) None z = absurd z
option-clone (Some v) (Some w) z = ap (λ x. Some x) z

-- equal cases and equal fields make equal contents
pub variant-content : (v w : Variant) → cases_of w ≡ cases_of v → defined_content (VariantType w) ≡ defined_content (VariantType v)
variant-content v w e = rw (named-is_some w.cases.entries, case_types-named w.cases.entries, named-is_some v.cases.entries, case_types-named v.cases.entries, e) refl

pub record-content : (r s : Record) → fields_of s ≡ fields_of r → defined_content (RecordType s) ≡ defined_content (RecordType r)
record-content r s e = rw (names-named s.fields.entries, types_of-named s.fields.entries, names-named r.fields.entries, types_of-named r.fields.entries, e) refl
