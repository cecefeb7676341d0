-- What names stand for, as a list of exports says.
use Rattle.std.specs.Prelude.{◌≡◌, ℕ, ◌<◌, List, Option, Some, None, slice_get}
use Rattle.wac_model.specs.Text.{Text}
use Rattle.wac_component.specs.Collection.{Collection}
use Rattle.wac_component.specs.Content.{named}
use Rattle.wac_component.specs.Tree.{value_tree, root_name}
use Rattle.wac_component.specs.declared.items.ItemKind.{ItemKind}
use Rattle.wac_component.specs.declared.items.ItemKind.TheVariants.{«Type» as OfType}
use Rattle.wac_component.specs.declared.items.Type.{«Type» as TypeOf}
use Rattle.wac_component.specs.declared.items.Type.TheVariants.{Resource as TypeResource, Value as TypeValue}
use Rattle.wac_wit_validation_types.specs.declared.names.NamedTypes.{NamedTypes}
use Rattle.wac_wit_scopes.specs.WitSources.{ident_text}
use Rattle.wac_wit_validation_types.specs.declared.new_names.NewNames.{NewNames}
use Rattle.std.specs.Borrow.{Bor}
use Rattle.indexmap.specs.IndexMap.{get_by_text}
use Rattle.std.specs.Option.{option_map, option_map_or}
use Rattle.wac_wit_syntax.specs.declared.tree.Rename.{Rename}
use Rattle.wac_wit_syntax.specs.declared.tree.TypeItem.{TypeItem}
use Rattle.wac_wit_validation_types.specs.Denoted.{Denoted, IsDefined, NamesType, Setting, renamed_by, resource_type, value_type}

-- what a type stands for, if a name of WIT can
abbrev pub type_meaning : Collection → TypeOf → Option Denoted
type_meaning c (TypeValue v) = Some (value_type (value_tree c v))
type_meaning c (TypeResource r) = Some (resource_type (root_name c r))
type_meaning c t = None

-- the type is what the name stands for
abbrev pub IsTypeNamed : Setting → Text → Collection → TypeOf → Type 0
IsTypeNamed s n c t = (m : Denoted) → type_meaning c t ≡ Some m → NamesType s n m

-- the type is what the text defines
abbrev pub IsTypeDefined : Setting → TypeItem → Collection → TypeOf → Type 0
IsTypeDefined s i c t = (m : Denoted) → type_meaning c t ≡ Some m → IsDefined s i m

abbrev pub IsItemNamed : Setting → Text → Collection → ItemKind → Type 0
IsItemNamed s n c (OfType t) = IsTypeNamed s n c t
IsItemNamed s n c k = Unit {0}

-- each type among the first so many items is what its name stands for
abbrev pub TypesAreNamed : Setting → Collection → ℕ → List (Text × ItemKind) → Type 0
TypesAreNamed s c limit es = (i : ℕ) (e : Text × ItemKind) → i < limit → slice_get es i ≡ Some e → IsItemNamed s e.0 c e.1

-- the name that a name becomes, if one is known
abbrev pub new_name : NewNames → Text → Option Text
new_name m n = option_map (λ b. ident_text b.now) (get_by_text m.names n)

-- what it becomes, or that name
abbrev pub new_name_or : NewNames → Text → Text
new_name_or m n = option_map_or (λ x. x) (new_name m n) n

-- names become what they do by the first ones, and that becomes what it does by the others, or stays
abbrev pub IsComposed : NewNames → NewNames → NewNames → Type 0
IsComposed first by m = (n x : Text) → new_name m n ≡ Some x → (y : Text) × (new_name first n ≡ Some y) × (new_name_or by y ≡ x)

-- what a name becomes, or that name where none becomes another
abbrev pub name_by : Option (Bor NewNames) → Text → Option Text
name_by None n = Some n
name_by (Some m) n = new_name m.now n

-- the names become what they do by these
abbrev pub AreNamesBy : NewNames → List (List Rename) → Type 0
AreNamesBy m rss = (n x : Text) → new_name m n ≡ Some x → renamed_by rss n ≡ x

-- the same of the names that types have here
abbrev pub Renames : NamedTypes → List (List Rename) → Type 0
Renames names rss = (n m : Text) → name_by names.new_names n ≡ Some m → renamed_by rss n ≡ m

-- the names stand for what they do in the setting
abbrev pub StandForTypes : NamedTypes → Setting → Type 0
StandForTypes names s = TypesAreNamed s names.types.now names.limit (named (λ k. k) names.items.now.entries)

-- the name under which a type, or a function of a resource, is imported
abbrev pub imported_name : List (List Rename) → Text → ItemKind → Text
imported_name rss n (OfType t) = renamed_by rss n
imported_name rss n k = n
