-- What entries say, as plain values: texts as bytes, ordered maps as lists of pairs.
use Rattle.std.specs.Prelude.{List, [], ◌∷◌, ◌++◌, Option, map, is_some, string_bytes}
use Rattle.std.specs.declared.string.String.{String}
use Rattle.std.specs.declared.alloc.Global.{Global}
use Rattle.std.specs.Option.{option_map, option_to_list}
use Rattle.wac_model.specs.Text.{Text}
use Rattle.wac_model.specs.ValueTree.{tuple, list, fixed_size_list, map_of, option, result_of, variant, record_of, flags, enum, stream, future}
use Rattle.wac_component.specs.Collection.{DefinedContent, alias_of, composed, ResourceContent, AliasContent, FuncContent, UseContent, InterfaceContent, WorldContent}
use Rattle.wac_component.specs.declared.items.ValueType.{ValueType}
use Rattle.wac_component.specs.declared.defined.DefinedType.{DefinedType}
use Rattle.wac_component.specs.declared.defined.DefinedType.TheVariants.{Tuple, List as ListOf, FixedSizeList, Map as MapOf, Option as OptionOf, Result, Variant, Record, Flags, Enum, Alias, Stream, Future}
use Rattle.wac_component.specs.declared.defined.Variant.{Variant as VariantCases}
use Rattle.wac_component.specs.declared.defined.Record.{Record as RecordFields}
use Rattle.wac_component.specs.declared.defined.Flags.{Flags as FlagNames}
use Rattle.wac_component.specs.declared.defined.Enum.{Enum as EnumCases}
use Rattle.wac_component.specs.declared.functions.FuncType.{FuncType}
use Rattle.wac_component.specs.declared.resources.ResourceAlias.{ResourceAlias}
use Rattle.wac_component.specs.declared.resources.Resource.{Resource}
use Rattle.wac_component.specs.declared.interfaces.UsedType.{UsedType}
use Rattle.wac_component.specs.declared.interfaces.Interface.{Interface}
use Rattle.wac_component.specs.declared.worlds.World.{World}

-- the entries of an ordered map, with each name as its text
abbrev pub named : {V W : Type 0} → (V → W) → List (String Global × V) → List (Text × W)
named f es = map (λ e. (string_bytes e.0, f e.1)) es

-- the names of a map's entries
abbrev pub names : {V : Type 0} → List (String Global × V) → List Text
names es = map (λ e. string_bytes e.0) es

-- the values of a map's entries
abbrev pub types_of : {V : Type 0} → List (String Global × V) → List V
types_of es = map (λ e. e.1) es

-- the types of a variant's cases that have one
abbrev pub case_types : List (String Global × Option ValueType) → List ValueType
case_types [] = []
case_types (e ∷ es) = option_to_list e.1 ++ case_types es

-- the cases of a variant, each with its type if it has one
abbrev pub cases_of : VariantCases → List (Text × Option ValueType)
cases_of v = named (λ t. t) v.cases.entries

-- the fields of a record, each with its type
abbrev pub fields_of : RecordFields → List (Text × ValueType)
fields_of r = named (λ t. t) r.fields.entries

-- the names of flags
abbrev pub flag_names : FlagNames → List Text
flag_names f = map string_bytes f.0.keys

-- the names of an enum's cases
abbrev pub case_names : EnumCases → List Text
case_names e = map string_bytes e.0.keys

abbrev pub defined_content : DefinedType → DefinedContent
defined_content (Tuple items) = composed tuple items.items
defined_content (ListOf item) = composed list (item ∷ [])
defined_content (FixedSizeList item size) = composed (fixed_size_list size) (item ∷ [])
defined_content (MapOf key value) = composed map_of (key ∷ value ∷ [])
defined_content (OptionOf item) = composed option (item ∷ [])
defined_content (Result ok err) = composed (result_of (is_some ok) (is_some err)) (option_to_list ok ++ option_to_list err)
defined_content (Variant v) = composed (variant (named is_some v.cases.entries)) (case_types v.cases.entries)
defined_content (Record r) = composed (record_of (names r.fields.entries)) (types_of r.fields.entries)
defined_content (Flags f) = composed (flags (flag_names f)) []
defined_content (Enum e) = composed (enum (case_names e)) []
defined_content (Alias of) = alias_of of
defined_content (Stream payload) = composed (stream (is_some payload)) (option_to_list payload)
defined_content (Future payload) = composed (future (is_some payload)) (option_to_list payload)

abbrev pub alias_content : ResourceAlias → AliasContent
alias_content a = record { owner = a.owner; source = a.source }

abbrev pub resource_content : Resource → ResourceContent
resource_content r = record { name = string_bytes r.name; alias = option_map alias_content r.alias }

abbrev pub func_content : FuncType → FuncContent
func_content f = record { params = named (λ v. v) f.params.entries; «result» = f.«result»; is_async = f.is_async }

abbrev pub use_content : UsedType → UseContent
use_content u = record { interface = u.interface; name = option_map string_bytes u.name }

abbrev pub interface_content : Interface → InterfaceContent
interface_content i = record { id = option_map string_bytes i.id; uses = named use_content i.uses.entries; exports = named (λ k. k) i.exports.entries }

abbrev pub world_content : World → WorldContent
world_content w = record { id = option_map string_bytes w.id; uses = named use_content w.uses.entries; imports = named (λ k. k) w.imports.entries; exports = named (λ k. k) w.exports.entries }
