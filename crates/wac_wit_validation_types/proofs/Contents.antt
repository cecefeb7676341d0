-- What types that are defined stand for.
use Rattle.std.proofs.Common.{◌≡◌, ◌∙◌, ap, List, Some, Vec, String, Global, sym, subst, map, string_bytes}
use Rattle.std.proofs.lemmas.Option.{same_Some}
use Rattle.wac_model.specs.Text.{Text}
use Rattle.wac_model.specs.ValueTree.{node, no_parts, parts_of, record_of, flags, enum}
use Rattle.wac_component.specs.Collection.{Collection}
use Rattle.wac_component.specs.Content.{names, types_of}
use Rattle.wac_component.specs.Tree.{value_tree}
use Rattle.wac_component.specs.declared.items.Type.{«Type» as TypeOf}
use Rattle.wac_component.specs.declared.items.Type.TheVariants.{Value as TypeValue}
use Rattle.wac_component.specs.declared.items.ValueType.{ValueType}
use Rattle.wac_wit_validation_types.specs.Denoted.{AreFieldsOf, Denoted, IsDefined, Setting, a_record, an_enum, field_names, some_flags, value_type}
use Rattle.wac_wit_validation_types.specs.Reading.{type_meaning}
use Rattle.wac_wit_scopes.specs.WitSources.{ident_text}
use Rattle.wac_wit_syntax.specs.declared.tree.Field.{Field}
use Rattle.wac_wit_syntax.specs.declared.tree.Ident.{Ident}
use Rattle.wac_wit_syntax.specs.declared.tree.TypeDef.TheVariants as def
use Rattle.wac_wit_syntax.specs.declared.tree.TypeItem.{TypeItem}

-- a type stands for one thing
pub type_meaning-only : (P : Denoted → Type 0) (c : Collection) (t : TypeOf) (d m : Denoted) → type_meaning c t ≡ Some d → type_meaning c t ≡ Some m → P d → P m
type_meaning-only P c t d m is h p = subst P (same_Some d m (sym is ∙ h)) p

-- a value type stands for its tree
pub type_meaning-value : (P : Denoted → Type 0) (c : Collection) (t : TypeOf) (v : ValueType) (m : Denoted) → t ≡ TypeValue v → type_meaning c t ≡ Some m → P (value_type (value_tree c v)) → P m
type_meaning-value P c t v m is h p = type_meaning-only P c t (value_type (value_tree c v)) m (ap (type_meaning c) is) h p

module _ (s : Setting) (t : TypeItem) (c : Collection) where
  pub record-entries : (fs : Vec Field Global) (es : List (String Global × ValueType)) → t.def ≡ def.Record fs → names es ≡ field_names fs.items → AreFieldsOf s fs.items (map (value_tree c) (types_of es))
      → IsDefined s t (value_type (node (record_of (names es)) (parts_of (map (value_tree c) (types_of es)))))
  record-entries fs es is same are = subst (λ (ns : List Text). IsDefined s t (value_type (node (record_of ns) (parts_of (map (value_tree c) (types_of es)))))) (sym same) (a_record fs is are)

  pub flags-names : (ids : Vec Ident Global) (keys : List (String Global)) → t.def ≡ def.Flags ids → map ident_text ids.items ≡ map string_bytes keys → IsDefined s t (value_type (node (flags (map string_bytes keys)) no_parts))
  flags-names ids keys is same = subst (λ (ns : List Text). IsDefined s t (value_type (node (flags ns) no_parts))) same (some_flags ids is)

  pub enum-names : (ids : Vec Ident Global) (keys : List (String Global)) → t.def ≡ def.Enum ids → map ident_text ids.items ≡ map string_bytes keys → IsDefined s t (value_type (node (enum (map string_bytes keys)) no_parts))
  enum-names ids keys is same = subst (λ (ns : List Text). IsDefined s t (value_type (node (enum ns) no_parts))) same (an_enum ids is)
