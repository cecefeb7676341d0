-- Items by the entries that they name.
use Rattle.std.specs.Prelude.{◌≡◌, List, All, Some}
use Rattle.std.specs.Str.{bytes_eq}
use Rattle.std.specs.declared.string.String.{String}
use Rattle.std.specs.declared.alloc.Global.{Global}
use Rattle.indexmap.specs.IndexMap.{IndexMap}
use Rattle.wac_model.specs.Text.{Text, lookup}
use Rattle.wac_model.specs.ItemTree.{Kind, item, type_item}
use Rattle.wac_component.specs.Id.{Id}
use Rattle.wac_component.specs.Content.{named}
use Rattle.wac_component.specs.Key.{Key, item_keys, named_keys, Sort, defined_sort, resource_sort, func_sort, interface_sort, world_sort, module_sort}
use Rattle.wac_component.specs.declared.items.ValueType.TheVariants.{Defined}
use Rattle.wac_component.specs.declared.items.ItemKind.{ItemKind}
use Rattle.wac_component.specs.declared.items.ItemKind.TheVariants.{«Type» as OfType, Func, Instance, Component, Module, Value}
use Rattle.wac_component.specs.declared.items.Type.TheVariants.{Resource as TypeResource, Func as TypeFunc, Value as TypeValue, Interface as TypeInterface, World as TypeWorld, Module as TypeModule}

-- the item that names an entry, or the type that does; a resource is named by a type alone
abbrev pub item_of : Kind → Sort → Id → ItemKind
item_of item defined_sort p = Value (Defined p)
item_of item func_sort p = Func p
item_of item interface_sort p = Instance p
item_of item world_sort p = Component p
item_of item module_sort p = Module p
item_of k resource_sort p = OfType (TypeResource p)
item_of type_item defined_sort p = OfType (TypeValue (Defined p))
item_of type_item func_sort p = OfType (TypeFunc p)
item_of type_item interface_sort p = OfType (TypeInterface p)
item_of type_item world_sort p = OfType (TypeWorld p)
item_of type_item module_sort p = OfType (TypeModule p)

abbrev pub entry_item : Kind → Key → ItemKind
entry_item k m = item_of k m.sort m.id

-- items by their names
abbrev pub ExternKinds : Type 0
ExternKinds = List (Text × ItemKind)

-- the ids in them
abbrev pub extern_keys : ExternKinds → List Key
extern_keys es = named_keys item_keys es

-- what a map from names to items holds
abbrev pub extern_list : {S : Type 0} → IndexMap (String Global) ItemKind S → ExternKinds
extern_list m = named (λ k. k) m.entries

-- no entry is hidden by another of its name
abbrev pub AreUnhidden : ExternKinds → Type 0
AreUnhidden es = All (λ (e : Text × ItemKind). lookup bytes_eq es e.0 ≡ Some e.1) es
