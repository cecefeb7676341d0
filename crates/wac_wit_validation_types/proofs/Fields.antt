-- Fields, cases and names that are those of a map's entries, one by one.
use Rattle.std.proofs.Common.{◌≡◌, true, false, List, [], ◌∷◌, Option, Some, None, String, Global, refl, sym, subst, map, is_some, string_bytes}
use Rattle.std.specs.List.{AllZip}
use Rattle.std.specs.Option.{option_map}
use Rattle.wac_model.specs.Text.{Text}
use Rattle.wac_model.specs.ValueTree.{ValueTree}
use Rattle.wac_component.specs.Collection.{Collection}
use Rattle.wac_component.specs.Content.{names, types_of, case_types, named}
use Rattle.wac_component.specs.Tree.{value_tree}
use Rattle.wac_component.specs.declared.items.ValueType.{ValueType}
use Rattle.wac_wit_validation_types.specs.Denoted.{AreCasesOf, AreFieldsOf, IsValue, Setting, bare, field_names, more_fields, no_cases, no_fields, with_type}
use Rattle.wac_wit_validation_types.specs.Functions.{IsReturned, returns, returns_nothing}
use Rattle.wac_wit_validation_types.specs.Reading.{StandForTypes}
use Rattle.wac_wit_scopes.specs.WitSources.{ident_text}
use Rattle.wac_wit_validation_types.specs.declared.names.NamedTypes.{NamedTypes}
use Rattle.wac_wit_syntax.specs.declared.tree.Case.{Case}
use Rattle.wac_wit_syntax.specs.declared.tree.Field.{Field}
use Rattle.wac_wit_syntax.specs.declared.tree.Ident.{Ident}
use Rattle.wac_wit_syntax.specs.declared.tree.TypeExpr.{TypeExpr}

pub record IsFieldAt (n : NamedTypes) (f : Field) (e : String Global × ValueType) : Type 0 where
  pub name : string_bytes e.0 ≡ ident_text f.name
  pub ty : (s : Setting) → StandForTypes n s → IsValue s f.ty (value_tree n.types.now e.1)

pub record IsCaseAt (n : NamedTypes) (k : Case) (e : String Global × Option ValueType) : Type 0 where
  pub name : string_bytes e.0 ≡ ident_text k.name
  pub ty : (s : Setting) → StandForTypes n s → IsReturned s k.ty (option_map (value_tree n.types.now) e.1)

abbrev pub IsSpelled : Ident → String Global → Type 0
IsSpelled id key = string_bytes key ≡ ident_text id

pub names-fields : (n : NamedTypes) (fs : List Field) (es : List (String Global × ValueType)) → AllZip (IsFieldAt n) fs es → names es ≡ field_names fs
names-fields n [] [] all = refl
names-fields n [] (e ∷ es) all = absurd all
names-fields n (f ∷ fs) [] all = absurd all
names-fields n (f ∷ fs) (e ∷ es) all = let first = all.0.name in let others = names-fields n fs es all.1 in cc

pub AreFieldsOf-entries : (n : NamedTypes) (s : Setting) → StandForTypes n s → (fs : List Field) (es : List (String Global × ValueType)) → AllZip (IsFieldAt n) fs es → AreFieldsOf s fs (map (value_tree n.types.now) (types_of es))
AreFieldsOf-entries n s h [] [] all = no_fields
AreFieldsOf-entries n s h [] (e ∷ es) all = absurd all
AreFieldsOf-entries n s h (f ∷ fs) [] all = absurd all
AreFieldsOf-entries n s h (f ∷ fs) (e ∷ es) all = more_fields (all.0.ty s h) (AreFieldsOf-entries n s h fs es all.1)

has_no_type : (s : Setting) (t : Option TypeExpr) → IsReturned s t None → t ≡ None
has_no_type s _ returns_nothing = refl

has_type : (s : Setting) (t : Option TypeExpr) (v : ValueTree) → IsReturned s t (Some v) → (e : TypeExpr) × (t ≡ Some e) × IsValue s e v
has_type s _ _ (returns {t = e} is) = (e, refl, is)

AreCasesOf-more : (s : Setting) (c : Collection) (k : Case) (n : String Global) (o : Option ValueType) (ks : List Case) (es : List (String Global × Option ValueType)) → string_bytes n ≡ ident_text k.name → IsReturned s k.ty (option_map (value_tree c) o)
    → AreCasesOf s ks (named is_some es) (map (value_tree c) (case_types es)) → AreCasesOf s (k ∷ ks) (named is_some ((n, o) ∷ es)) (map (value_tree c) (case_types ((n, o) ∷ es)))
AreCasesOf-more s c k n None ks es same is all =
    subst (λ (l : Text). AreCasesOf s (k ∷ ks) ((l, false) ∷ named is_some es) (map (value_tree c) (case_types es))) (sym same) (bare (has_no_type s k.ty is) all)
AreCasesOf-more s c k n (Some v) ks es same is all =
    let t = has_type s k.ty (value_tree c v) is in
    subst (λ (l : Text). AreCasesOf s (k ∷ ks) ((l, true) ∷ named is_some es) (value_tree c v ∷ map (value_tree c) (case_types es))) (sym same) (with_type t.0 t.1 t.2 all)

pub AreCasesOf-entries : (n : NamedTypes) (s : Setting) → StandForTypes n s → (ks : List Case) (es : List (String Global × Option ValueType)) → AllZip (IsCaseAt n) ks es → AreCasesOf s ks (named is_some es) (map (value_tree n.types.now) (case_types es))
AreCasesOf-entries n s h [] [] all = no_cases
AreCasesOf-entries n s h [] (e ∷ es) all = absurd all
AreCasesOf-entries n s h (k ∷ ks) [] all = absurd all
AreCasesOf-entries n s h (k ∷ ks) (e ∷ es) all = AreCasesOf-more s n.types.now k e.0 e.1 ks es all.0.name (all.0.ty s h) (AreCasesOf-entries n s h ks es all.1)

pub map-names : (ids : List Ident) (keys : List (String Global)) → AllZip IsSpelled ids keys → map ident_text ids ≡ map string_bytes keys
map-names [] [] all = refl
map-names [] (key ∷ keys) all = absurd all
map-names (id ∷ ids) [] all = absurd all
map-names (id ∷ ids) (key ∷ keys) all = let first = sym all.0 in let others = map-names ids keys all.1 in cc
