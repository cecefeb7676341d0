-- That ids stand in maps by name, with one thing more.
use Rattle.std.proofs.Common.{◌≡◌, Option, None, Some, List, [], ◌∷◌, ◌++◌, refl, ap, ◌∙◌, inl, inr, string_bytes, String, Global, Result, Ok, Err}
use Rattle.std.proofs.lemmas.Bool.{cases_Bool}
use Rattle.std.specs.List.{flat_map}
use Rattle.std.specs.Option.{option_to_list}
use Rattle.std.specs.Result.{OnOk}
use Rattle.std.specs.Str.{bytes_eq}
use Rattle.std.specs.String.{string_eq}
use Rattle.indexmap.specs.IndexMap.{insert_entry}
use Rattle.wac_model.specs.Text.{Text}
use Rattle.wac_component.specs.Content.{named, types_of, case_types}
use Rattle.wac_component.specs.Key.{Key, Each, named_keys, value_keys, optional_keys}
use Rattle.wac_component.specs.declared.items.ValueType.{ValueType}
use Rattle.wac_component.proofs.Keys.{Each-append, Each-left, Each-right}

-- what an insertion shows
named-insert : {V W : Type 0} (h : V → W) (es : List (String Global × V)) (k : String Global) (v : V) → named h (insert_entry string_eq es k v) ≡ insert_entry bytes_eq (named h es) (string_bytes k) (h v)
named-insert h [] k v = refl
named-insert h (e ∷ es) k v = elim (cases_Bool (bytes_eq (string_bytes k) (string_bytes e.0))) [
  | inl t ↦ rw t refl
  | inr f ↦ let rest = named-insert h es k v in rw f (ap (λ (l : List (Text × _)). (string_bytes e.0, h e.1) ∷ l) rest)
]

Each-insert : {W : Type 0} (P : Key → Type 0) (g : W → List Key) (es : List (Text × W)) (n : Text) (v : W) → Each P (named_keys g es) → Each P (g v) → Each P (named_keys g (insert_entry bytes_eq es n v))
Each-insert P g [] n v h q = Each-append P (g v) [] q tt
Each-insert P g (e ∷ es) n v h q = elim (cases_Bool (bytes_eq n e.0)) [
  | inl t ↦ rw t (Each-append P (g v) (named_keys g es) q (Each-right P (g e.1) (named_keys g es) h))
  | inr f ↦ rw f (Each-append P (g e.1) (named_keys g (insert_entry bytes_eq es n v)) (Each-left P (g e.1) (named_keys g es) h) (Each-insert P g es n v (Each-right P (g e.1) (named_keys g es) h) q))
]

-- the ids in a map that has one thing more
pub stand_more : {W X : Type 0} (P : Key → Type 0) (g : W → List Key) (h : X → W) (es new : List (String Global × X)) (name : String Global) (x : X) → Each P (named_keys g (named h es))
    → new ≡ insert_entry string_eq es name x → Each P (g (h x)) → Each P (named_keys g (named h new))
stand_more P g h es new name x so_far is here =
    let shown : named h new ≡ insert_entry bytes_eq (named h es) (string_bytes name) (h x) = ap (named h) is ∙ named-insert h es name x in
    rw shown (Each-insert P g (named h es) (string_bytes name) (h x) so_far here)

-- the ids in the types of a map's entries are those in the map
pub stand_types : (P : Key → Type 0) (es : List (String Global × ValueType)) → Each P (named_keys value_keys (named (λ t. t) es)) → Each P (flat_map value_keys (types_of es))
stand_types P [] h = tt
stand_types P (e ∷ es) h = Each-append P (value_keys e.1) (flat_map value_keys (types_of es)) (Each-left P (value_keys e.1) _ h) (stand_types P es (Each-right P (value_keys e.1) _ h))

stand_optional : (P : Key → Type 0) (o : Option ValueType) → Each P (optional_keys value_keys o) → Each P (flat_map value_keys (option_to_list o))
stand_optional P None h = tt
stand_optional P (Some v) h = Each-append P (value_keys v) [] h tt

optional_rest : (P : Key → Type 0) (o : Option ValueType) (vs : List ValueType) → Each P (flat_map value_keys (option_to_list o)) → Each P (flat_map value_keys vs) → Each P (flat_map value_keys (option_to_list o ++ vs))
optional_rest P None vs h q = q
optional_rest P (Some v) vs h q = Each-append P (value_keys v) (flat_map value_keys vs) (Each-left P (value_keys v) [] h) q

pub stand_cases : (P : Key → Type 0) (es : List (String Global × Option ValueType)) → Each P (named_keys (optional_keys value_keys) (named (λ t. t) es)) → Each P (flat_map value_keys (case_types es))
stand_cases P [] h = tt
stand_cases P (e ∷ es) h = optional_rest P e.1 (case_types es) (stand_optional P e.1 (Each-left P (optional_keys value_keys e.1) _ h)) (stand_cases P es (Each-right P (optional_keys value_keys e.1) _ h))

-- what holds is so where there is a value
pub on_ok : {X E : Type 0} (r : Result X E) (P : Type 0) → P → OnOk r P
on_ok (Ok x) P h = h
on_ok (Err e) P h = tt
