-- What items stand for: their trees, with aliases peeled and each resource by the
-- name at the root of its aliases.
use Rattle.std.specs.Prelude.{◌≡◌, ◌≢◌, List, [], ◌∷◌, Some, None, map, slice_get, false, option_map}
use Rattle.std.specs.Option.{option_map_or}
use Rattle.wac_model.specs.Text.{Text}
use Rattle.wac_model.specs.ValueTree.{ValueTree, FuncTree, node, no_parts, parts_of, primitive, borrow, own, tuple}
use Rattle.wac_model.specs.CoreTree.{ModuleTree, module_of}
use Rattle.wac_model.specs.ItemTree.{ItemTree, Items, item, type_item, leaf, core_module, composite, interface, world, no_items, named, resource, func, value}
use Rattle.wac_component.specs.Id.{Id}
use Rattle.wac_component.specs.Collection.{Collection, DefinedContent, alias_of, composed, ResourceContent, FuncContent, InterfaceContent, WorldContent}
use Rattle.wac_component.specs.Key.{Key, Entry, defined_entry, resource_entry, interface_entry, world_entry, defined_key, resource_key, interface_key, world_key}
use Rattle.wac_component.specs.Unfolding.{unfolded}
use Rattle.wac_component.specs.declared.items.ValueType.{ValueType}
use Rattle.wac_component.specs.declared.items.ValueType.TheVariants.{Primitive, Borrow, Own, Defined}
use Rattle.wac_component.specs.declared.items.ItemKind.{ItemKind}
use Rattle.wac_component.specs.declared.items.ItemKind.TheVariants.{«Type» as OfType, Func, Instance, Component, Module, Value}
use Rattle.wac_component.specs.declared.items.Type.{«Type» as TypeOf}
use Rattle.wac_component.specs.declared.items.Type.TheVariants.{Resource as TypeResource, Func as TypeFunc, Value as TypeValue, Interface as TypeInterface, World as TypeWorld, Module as TypeModule}

-- the name of a resource is that of its source, if it is another name of one, else its own
abbrev pub content_name : (Id → Text) → ResourceContent → Text
content_name f r = option_map_or (λ a. f a.source) r.alias r.name

abbrev pub entry_name : Entry → (Key → Text) → Text
entry_name (resource_entry r) f = content_name (λ p. f (resource_key p)) r
entry_name e f = []

-- the name at the root of a resource's aliases
abbrev pub root_name : Collection → Id → Text
root_name c r = unfolded [] entry_name c (resource_key r)

-- the tree of a value type, by those of defined types
abbrev pub value_tree_by : Collection → (Key → ValueTree) → ValueType → ValueTree
value_tree_by c f (Primitive p) = node (primitive p) no_parts
value_tree_by c f (Borrow r) = node (borrow (root_name c r)) no_parts
value_tree_by c f (Own r) = node (own (root_name c r)) no_parts
value_tree_by c f (Defined d) = f (defined_key d)

-- the tree of what a defined type says, by those of its members
abbrev pub content_tree : (ValueType → ValueTree) → DefinedContent → ValueTree
content_tree f (alias_of of) = f of
content_tree f (composed label members) = node label (parts_of (map f members))

abbrev pub entry_value : Collection → Entry → (Key → ValueTree) → ValueTree
entry_value c (defined_entry d) f = content_tree (value_tree_by c f) d
entry_value c e f = node tuple no_parts

-- the tree of a defined type
abbrev pub defined_tree : Collection → Key → ValueTree
defined_tree c k = unfolded (node tuple no_parts) (entry_value c) c k

-- the tree of a value type
abbrev pub value_tree : Collection → ValueType → ValueTree
value_tree c = value_tree_by c (defined_tree c)

-- the tree of what a function type says
abbrev pub func_content_tree : Collection → FuncContent → FuncTree
func_content_tree c f = record { params = map (λ p. (p.0, value_tree c p.1)) f.params; «result» = option_map (value_tree c) f.«result»; is_async = f.is_async }

-- the tree of a function type
abbrev pub func_tree : Collection → Id → FuncTree
func_tree c f = option_map_or (func_content_tree c) (slice_get c.funcs f.index) (record { params = []; «result» = None; is_async = false })

-- the tree of a core module
abbrev pub module_tree : Collection → Id → ModuleTree
module_tree c m = option_map_or (λ t. t) (slice_get c.modules m.index) (module_of (record { imports = []; exports = [] }))

-- what an interface or a world imports and exports; an interface imports nothing
pub record Externs : Type 0 where
  pub imports : Items
  pub exports : Items

-- the tree of a type, by what interfaces and worlds import and export
abbrev pub type_tree_by : Collection → (Key → Externs) → TypeOf → ItemTree
type_tree_by c f (TypeResource r) = leaf type_item (resource (root_name c r))
type_tree_by c f (TypeFunc p) = leaf type_item (func (func_tree c p))
type_tree_by c f (TypeValue v) = leaf type_item (value (value_tree c v))
type_tree_by c f (TypeInterface i) = composite type_item interface no_items (f (interface_key i)).exports
type_tree_by c f (TypeWorld w) = composite type_item world (f (world_key w)).imports (f (world_key w)).exports
type_tree_by c f (TypeModule m) = core_module type_item (module_tree c m)

-- the tree of an item, by what interfaces and worlds import and export
abbrev pub item_tree_by : Collection → (Key → Externs) → ItemKind → ItemTree
item_tree_by c f (OfType t) = type_tree_by c f t
item_tree_by c f (Func p) = leaf item (func (func_tree c p))
item_tree_by c f (Instance i) = composite item interface no_items (f (interface_key i)).exports
item_tree_by c f (Component w) = composite item world (f (world_key w)).imports (f (world_key w)).exports
item_tree_by c f (Module m) = core_module item (module_tree c m)
item_tree_by c f (Value v) = leaf item (value (value_tree c v))

-- named items, by the trees of each
abbrev pub items_of : (ItemKind → ItemTree) → List (Text × ItemKind) → Items
items_of f [] = no_items
items_of f (e ∷ es) = named e.0 (f e.1) (items_of f es)

-- what an interface and a world say that they import and export, by the trees of items
abbrev pub interface_externs : (ItemKind → ItemTree) → InterfaceContent → Externs
interface_externs f i = record { imports = no_items; exports = items_of f i.exports }

abbrev pub world_externs : (ItemKind → ItemTree) → WorldContent → Externs
world_externs f w = record { imports = items_of f w.imports; exports = items_of f w.exports }

abbrev pub entry_externs : Collection → Entry → (Key → Externs) → Externs
entry_externs c (interface_entry i) f = interface_externs (item_tree_by c f) i
entry_externs c (world_entry w) f = world_externs (item_tree_by c f) w
entry_externs c e f = record { imports = no_items; exports = no_items }

-- what an interface or a world imports and exports
abbrev pub externs : Collection → Key → Externs
externs c k = unfolded (record { imports = no_items; exports = no_items }) (entry_externs c) c k

-- the tree of a type
abbrev pub type_tree : Collection → TypeOf → ItemTree
type_tree c = type_tree_by c (externs c)

-- the tree of an item
abbrev pub item_tree : Collection → ItemKind → ItemTree
item_tree c = item_tree_by c (externs c)

-- a value type that is neither primitive nor a handle
abbrev pub IsCompound : ValueTree → Type 0
IsCompound (node (primitive p) ts) = ⊥
IsCompound (node (borrow r) ts) = ⊥
IsCompound (node (own r) ts) = ⊥
IsCompound t = Unit {0}

-- the value type is no alias
abbrev pub IsResolved : Collection → ValueType → Type 0
IsResolved c (Defined d) = ((of : ValueType) → slice_get c.defined d.index ≢ Some (alias_of of)) × IsCompound (value_tree c (Defined d))
IsResolved c v = Unit {0}

-- the resource is no alias
abbrev pub IsRoot : Collection → Id → Type 0
IsRoot c r = (e : ResourceContent) → slice_get c.resources r.index ≡ Some e → e.alias ≡ None
