-- Ids with their sorts, the entry of each, and the ids in an entry.
use Rattle.std.specs.Prelude.{◌≡◌, ◌<◌, List, [], ◌∷◌, ◌++◌, Option, map, length, slice_get}
use Rattle.std.specs.List.{flat_map}
use Rattle.std.specs.Option.{option_map_or}
use Rattle.wac_model.specs.Text.{Text}
use Rattle.wac_model.specs.CoreTree.{ModuleTree}
use Rattle.wac_component.specs.Id.{Id}
use Rattle.wac_component.specs.Collection.{Collection, DefinedContent, alias_of, composed, ResourceContent, AliasContent, FuncContent, UseContent, InterfaceContent, WorldContent}
use Rattle.wac_component.specs.declared.items.ValueType.{ValueType}
use Rattle.wac_component.specs.declared.items.ValueType.TheVariants.{Primitive, Borrow, Own, Defined}
use Rattle.wac_component.specs.declared.items.ItemKind.{ItemKind}
use Rattle.wac_component.specs.declared.items.ItemKind.TheVariants.{«Type» as OfType, Func, Instance, Component, Module, Value}
use Rattle.wac_component.specs.declared.items.Type.{«Type» as TypeOf}
use Rattle.wac_component.specs.declared.items.Type.TheVariants.{Resource as TypeResource, Func as TypeFunc, Value as TypeValue, Interface as TypeInterface, World as TypeWorld, Module as TypeModule}

-- which of the six lists
pub data Sort : Type 0 where
  defined_sort : Sort
  resource_sort : Sort
  func_sort : Sort
  interface_sort : Sort
  world_sort : Sort
  module_sort : Sort
  deriving Discrete as Sort-discrete

-- an id with its sort
pub record Key : Type 0 where
  pub sort : Sort
  pub id : Id

abbrev pub defined_key : Id → Key
defined_key p = record { sort = defined_sort; id = p }

abbrev pub resource_key : Id → Key
resource_key p = record { sort = resource_sort; id = p }

abbrev pub func_key : Id → Key
func_key p = record { sort = func_sort; id = p }

abbrev pub interface_key : Id → Key
interface_key p = record { sort = interface_sort; id = p }

abbrev pub world_key : Id → Key
world_key p = record { sort = world_sort; id = p }

abbrev pub module_key : Id → Key
module_key p = record { sort = module_sort; id = p }

-- an entry of any sort
pub data Entry : Type 0 where
  defined_entry : (of : DefinedContent) → Entry
  resource_entry : (of : ResourceContent) → Entry
  func_entry : (of : FuncContent) → Entry
  interface_entry : (of : InterfaceContent) → Entry
  world_entry : (of : WorldContent) → Entry
  module_entry : (of : ModuleTree) → Entry

-- the list of a sort
abbrev pub entries : Collection → Sort → List Entry
entries c defined_sort = map defined_entry c.defined
entries c resource_sort = map resource_entry c.resources
entries c func_sort = map func_entry c.funcs
entries c interface_sort = map interface_entry c.interfaces
entries c world_sort = map world_entry c.worlds
entries c module_sort = map module_entry c.modules

-- the entry of an id
abbrev pub entry_at : Collection → Key → Option Entry
entry_at c k = slice_get (entries c k.sort) k.id.index

-- the id stands in the collection
abbrev pub Stands : Collection → Key → Type 0
Stands c k = (k.id.number ≡ c.number) × (k.id.index < length (entries c k.sort))

-- the fact holds of each id
abbrev pub Each : (Key → Type 0) → List Key → Type 0
Each P [] = Unit {0}
Each P (k ∷ ks) = P k × Each P ks

-- the ids stand in the collection
abbrev pub AllStand : Collection → List Key → Type 0
AllStand c ks = Each (Stands c) ks

-- the ids in values, types and items

abbrev pub value_keys : ValueType → List Key
value_keys (Primitive p) = []
value_keys (Borrow r) = resource_key r ∷ []
value_keys (Own r) = resource_key r ∷ []
value_keys (Defined d) = defined_key d ∷ []

abbrev pub type_keys : TypeOf → List Key
type_keys (TypeResource r) = resource_key r ∷ []
type_keys (TypeFunc f) = func_key f ∷ []
type_keys (TypeValue v) = value_keys v
type_keys (TypeInterface i) = interface_key i ∷ []
type_keys (TypeWorld w) = world_key w ∷ []
type_keys (TypeModule m) = module_key m ∷ []

abbrev pub item_keys : ItemKind → List Key
item_keys (OfType t) = type_keys t
item_keys (Func f) = func_key f ∷ []
item_keys (Instance i) = interface_key i ∷ []
item_keys (Component w) = world_key w ∷ []
item_keys (Module m) = module_key m ∷ []
item_keys (Value v) = value_keys v

-- the ids in what is there, if anything is
abbrev pub optional_keys : {V : Type 0} → (V → List Key) → Option V → List Key
optional_keys f o = option_map_or f o []

-- the ids in named things
abbrev pub named_keys : {V : Type 0} → (V → List Key) → List (Text × V) → List Key
named_keys f es = flat_map (λ e. f e.1) es

abbrev pub use_keys : UseContent → List Key
use_keys u = interface_key u.interface ∷ []

-- the ids in entries

abbrev pub defined_keys : DefinedContent → List Key
defined_keys (alias_of of) = value_keys of
defined_keys (composed label members) = flat_map value_keys members

abbrev pub alias_keys : AliasContent → List Key
alias_keys a = optional_keys (λ o. interface_key o ∷ []) a.owner ++ resource_key a.source ∷ []

abbrev pub resource_keys : ResourceContent → List Key
resource_keys r = optional_keys alias_keys r.alias

abbrev pub func_keys : FuncContent → List Key
func_keys f = named_keys value_keys f.params ++ optional_keys value_keys f.«result»

abbrev pub interface_keys : InterfaceContent → List Key
interface_keys i = named_keys use_keys i.uses ++ named_keys item_keys i.exports

abbrev pub world_keys : WorldContent → List Key
world_keys w = named_keys use_keys w.uses ++ named_keys item_keys w.imports ++ named_keys item_keys w.exports

abbrev pub entry_keys : Entry → List Key
entry_keys (defined_entry d) = defined_keys d
entry_keys (resource_entry r) = resource_keys r
entry_keys (func_entry f) = func_keys f
entry_keys (interface_entry i) = interface_keys i
entry_keys (world_entry w) = world_keys w
entry_keys (module_entry m) = []

-- the ids in what an entry imports, which only a world does, and in the rest of it
abbrev pub import_keys : Entry → List Key
import_keys (world_entry w) = named_keys item_keys w.imports
import_keys e = []

abbrev pub other_keys : Entry → List Key
other_keys (world_entry w) = named_keys use_keys w.uses ++ named_keys item_keys w.exports
other_keys e = entry_keys e

-- the ids to which a walk goes from an id in one step
abbrev pub next : Collection → Key → List Key
next c k = optional_keys entry_keys (entry_at c k)
