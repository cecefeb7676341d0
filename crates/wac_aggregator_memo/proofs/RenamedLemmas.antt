-- What the contents of renamed parts are.
use Rattle.std.proofs.Common.{◌≡◌, List, [], ◌∷◌, Option, Some, None, map, is_some, string_bytes, String, Global, refl, ap}
use Rattle.std.specs.Option.{option_map}
use Rattle.wac_model.specs.ValueTree.{variant, record_of}
use Rattle.wac_component.specs.Collection.{composed}
use Rattle.wac_component.specs.Content.{named, names, types_of, case_types, use_content}
use Rattle.wac_component.specs.Key.{interface_key}
use Rattle.wac_component.specs.declared.items.ValueType.{ValueType}
use Rattle.wac_component.specs.declared.interfaces.UsedType.{UsedType}
use Rattle.wac_aggregator_memo.specs.Memo.{Remembered}
use Rattle.wac_aggregator_memo.specs.Renamed.{renamed_id, renamed_value, renamed_use, with_values}

pub is_some-map : {V W : Type 0} (h : V → W) (o : Option V) → is_some (option_map h o) ≡ is_some o
is_some-map h None = refl
is_some-map h (Some v) = refl

-- fields and cases
pub names-with : {V W : Type 0} (h : V → W) (es : List (String Global × V)) → names (with_values h es) ≡ names es
names-with h [] = refl
names-with h (e ∷ es) = ap (λ ns. string_bytes e.0 ∷ ns) (names-with h es)

pub types-with : {V W : Type 0} (h : V → W) (es : List (String Global × V)) → types_of (with_values h es) ≡ map h (types_of es)
types-with h [] = refl
types-with h (e ∷ es) = ap (λ vs. h e.1 ∷ vs) (types-with h es)

pub case_marks-with : (h : ValueType → ValueType) (es : List (String Global × Option ValueType)) → named is_some (with_values (λ t. option_map h t) es) ≡ named is_some es
case_marks-with h [] = refl
case_marks-with h (e ∷ es) = rw (is_some-map h e.1) (ap (λ ps. (string_bytes e.0, is_some e.1) ∷ ps) (case_marks-with h es))

pub case_types-with : (h : ValueType → ValueType) (es : List (String Global × Option ValueType)) → case_types (with_values (λ t. option_map h t) es) ≡ map h (case_types es)
case_types-with h [] = refl
case_types-with h ((n, None) ∷ es) = case_types-with h es
case_types-with h ((n, Some v) ∷ es) = ap (λ vs. h v ∷ vs) (case_types-with h es)

-- named things
pub named-with : {V : Type 0} (h : V → V) (es : List (String Global × V)) → named (λ v. v) (with_values h es) ≡ with_values h (named (λ v. v) es)
named-with h [] = refl
named-with h (e ∷ es) = ap (λ ps. (string_bytes e.0, h e.1) ∷ ps) (named-with h es)

abbrev pub with_interface : Remembered → UsedType → UsedType
with_interface m u = record u { interface = renamed_id m (interface_key u.interface) }

pub uses-with : (m : Remembered) (es : List (String Global × UsedType)) → named use_content (with_values (with_interface m) es) ≡ with_values (renamed_use m) (named use_content es)
uses-with m [] = refl
uses-with m (e ∷ es) = ap (λ ps. (string_bytes e.0, renamed_use m (use_content e.1)) ∷ ps) (uses-with m es)

-- a variant, a record
pub variant_renamed : (m : Remembered) (es fs : List (String Global × Option ValueType)) → fs ≡ with_values (λ t. option_map (renamed_value m) t) es
    → composed (variant (named is_some fs)) (case_types fs) ≡ composed (variant (named is_some es)) (map (renamed_value m) (case_types es))
variant_renamed m es fs is = rw (is, case_marks-with (renamed_value m) es, case_types-with (renamed_value m) es) refl

pub record_renamed : (m : Remembered) (es fs : List (String Global × ValueType)) → fs ≡ with_values (renamed_value m) es
    → composed (record_of (names fs)) (types_of fs) ≡ composed (record_of (names es)) (map (renamed_value m) (types_of es))
record_renamed m es fs is = rw (is, names-with (renamed_value m) es, types-with (renamed_value m) es) refl
