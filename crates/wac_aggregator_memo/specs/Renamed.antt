-- Contents with the ids of what stands for what they name.
use Rattle.std.specs.Prelude.{List, map}
use Rattle.std.specs.Option.{option_map, option_map_or}
use Rattle.wac_component.specs.Id.{Id}
use Rattle.wac_component.specs.Collection.{DefinedContent, alias_of, composed, ResourceContent, AliasContent, FuncContent, UseContent, InterfaceContent, WorldContent}
use Rattle.wac_component.specs.Key.{Key, defined_key, resource_key, func_key, interface_key, world_key, module_key}
use Rattle.wac_component.specs.declared.items.ValueType.{ValueType}
use Rattle.wac_component.specs.declared.items.ValueType.TheVariants.{Primitive, Borrow, Own, Defined}
use Rattle.wac_component.specs.declared.items.ItemKind.{ItemKind}
use Rattle.wac_component.specs.declared.items.ItemKind.TheVariants.{«Type» as OfType, Func, Instance, Component, Module, Value}
use Rattle.wac_component.specs.declared.items.Type.{«Type» as TypeOf}
use Rattle.wac_component.specs.declared.items.Type.TheVariants.{Resource as TypeResource, Func as TypeFunc, Value as TypeValue, Interface as TypeInterface, World as TypeWorld, Module as TypeModule}
use Rattle.wac_aggregator_memo.specs.Memo.{Remembered}

-- the id of what stands for an entry; its own where nothing does
abbrev pub renamed_id : Remembered → Key → Id
renamed_id m k = option_map_or (λ o. o.id) (m k) k.id

abbrev pub renamed_value : Remembered → ValueType → ValueType
renamed_value m (Primitive p) = Primitive p
renamed_value m (Borrow r) = Borrow (renamed_id m (resource_key r))
renamed_value m (Own r) = Own (renamed_id m (resource_key r))
renamed_value m (Defined d) = Defined (renamed_id m (defined_key d))

abbrev pub renamed_type : Remembered → TypeOf → TypeOf
renamed_type m (TypeResource r) = TypeResource (renamed_id m (resource_key r))
renamed_type m (TypeFunc f) = TypeFunc (renamed_id m (func_key f))
renamed_type m (TypeValue v) = TypeValue (renamed_value m v)
renamed_type m (TypeInterface i) = TypeInterface (renamed_id m (interface_key i))
renamed_type m (TypeWorld w) = TypeWorld (renamed_id m (world_key w))
renamed_type m (TypeModule c) = TypeModule (renamed_id m (module_key c))

abbrev pub renamed_item : Remembered → ItemKind → ItemKind
renamed_item m (OfType t) = OfType (renamed_type m t)
renamed_item m (Func f) = Func (renamed_id m (func_key f))
renamed_item m (Instance i) = Instance (renamed_id m (interface_key i))
renamed_item m (Component w) = Component (renamed_id m (world_key w))
renamed_item m (Module c) = Module (renamed_id m (module_key c))
renamed_item m (Value v) = Value (renamed_value m v)

-- the values of named things, each made another
abbrev pub with_values : {N V W : Type 0} → (V → W) → List (N × V) → List (N × W)
with_values g es = map (λ e. (e.0, g e.1)) es

abbrev pub renamed_defined : Remembered → DefinedContent → DefinedContent
renamed_defined m (alias_of of) = alias_of (renamed_value m of)
renamed_defined m (composed label members) = composed label (map (renamed_value m) members)

abbrev pub renamed_alias : Remembered → AliasContent → AliasContent
renamed_alias m a = record { owner = option_map (λ o. renamed_id m (interface_key o)) a.owner; source = renamed_id m (resource_key a.source) }

abbrev pub renamed_resource : Remembered → ResourceContent → ResourceContent
renamed_resource m r = record { name = r.name; alias = option_map (renamed_alias m) r.alias }

abbrev pub renamed_func : Remembered → FuncContent → FuncContent
renamed_func m f = record { params = with_values (renamed_value m) f.params; «result» = option_map (renamed_value m) f.«result»; is_async = f.is_async }

abbrev pub renamed_use : Remembered → UseContent → UseContent
renamed_use m u = record { interface = renamed_id m (interface_key u.interface); name = u.name }

abbrev pub renamed_interface : Remembered → InterfaceContent → InterfaceContent
renamed_interface m i = record { id = i.id; uses = with_values (renamed_use m) i.uses; exports = with_values (renamed_item m) i.exports }

abbrev pub renamed_world : Remembered → WorldContent → WorldContent
renamed_world m w = record { id = w.id; uses = with_values (renamed_use m) w.uses; imports = with_values (renamed_item m) w.imports; exports = with_values (renamed_item m) w.exports }
