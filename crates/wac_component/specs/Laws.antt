-- The laws of collections.
use Rattle.std.specs.Prelude.{◌≡◌, ◌↔◌, ◌⊎◌, Some, map, slice_get}
use Rattle.wac_model.specs.CoreTree.{ModuleTree}
use Rattle.wac_model.specs.ItemTree.{item, composite, core_module, leaf, func, interface, world, no_items}
use Rattle.wac_component.specs.Id.{Id}
use Rattle.wac_component.specs.Aliases.{IsSourceOf}
use Rattle.wac_component.specs.Collection.{Collection, DefinedContent, ResourceContent, FuncContent, InterfaceContent, WorldContent}
use Rattle.wac_component.specs.Key.{Key, Entry, next, entry_keys, import_keys, other_keys, Stands, AllStand, value_keys, defined_key, resource_key, func_key, interface_key, world_key, type_keys}
use Rattle.wac_component.specs.Visits.{visits}
use Rattle.wac_component.specs.declared.items.Type.{«Type» as TypeOf}
use Rattle.wac_component.specs.Sound.{IsSound}
use Rattle.wac_component.specs.Reach.{IsAmong, Reaches}
use Rattle.wac_component.specs.Tree.{root_name, content_name, value_tree, content_tree, func_tree, func_content_tree, item_tree, items_of}
use Rattle.wac_component.specs.Growth.{Extends}
use Rattle.wac_component.specs.declared.items.ValueType.{ValueType}
use Rattle.wac_component.specs.declared.items.ValueType.TheVariants.{Defined}
use Rattle.wac_component.specs.declared.items.ItemKind.TheVariants.{Func, Instance, Component, Module}

abbrev pub IsGrowthReflexive : Type 0
IsGrowthReflexive = (c : Collection) → Extends c c

abbrev pub IsGrowthTransitive : Type 0
IsGrowthTransitive = (c d e : Collection) → Extends c d → Extends d e → Extends c e

-- each id stands for what its entry says, by what the ids in the entry stand for
pub record FollowsEntries (c : Collection) : Type 0 where
  pub names : (p : Id) (e : ResourceContent) → Stands c (resource_key p) → slice_get c.resources p.index ≡ Some e → root_name c p ≡ content_name (root_name c) e
  pub values : (p : Id) (e : DefinedContent) → Stands c (defined_key p) → slice_get c.defined p.index ≡ Some e → value_tree c (Defined p) ≡ content_tree (value_tree c) e
  pub funcs : (p : Id) (e : FuncContent) → slice_get c.funcs p.index ≡ Some e → item_tree c (Func p) ≡ leaf item (func (func_content_tree c e))
  pub instances : (p : Id) (e : InterfaceContent) → Stands c (interface_key p) → slice_get c.interfaces p.index ≡ Some e → item_tree c (Instance p) ≡ composite item interface no_items (items_of (item_tree c) e.exports)
  pub components : (p : Id) (e : WorldContent) → Stands c (world_key p) → slice_get c.worlds p.index ≡ Some e → item_tree c (Component p) ≡ composite item world (items_of (item_tree c) e.imports) (items_of (item_tree c) e.exports)
  pub modules : (p : Id) (e : ModuleTree) → slice_get c.modules p.index ≡ Some e → item_tree c (Module p) ≡ core_module item e

abbrev pub TreesFollowEntries : Type 0
TreesFollowEntries = (c : Collection) → IsSound c → FollowsEntries c

-- what a walk leads to stands
abbrev pub WalksStand : Type 0
WalksStand = (c : Collection) → IsSound c → (k t : Key) → Stands c k → Reaches c k t → Stands c t

-- no walk of a step or more leads back to its start
abbrev pub NoWalkReturns : Type 0
NoWalkReturns = (c : Collection) → IsSound c → (k j : Key) → Stands c k → IsAmong j (next c k) → Reaches c j k → ⊥

-- each defined type that a visit sees stands
abbrev pub VisitsStand : Type 0
VisitsStand = (c : Collection) → IsSound c → (t : TypeOf) → AllStand c (type_keys t) → AllStand c (map defined_key (visits c t))

-- the ids in an entry are those in what it imports and those in the rest of it
abbrev pub ImportsAreApart : Type 0
ImportsAreApart = (e : Entry) (k : Key) → IsAmong k (entry_keys e) ↔ (IsAmong k (import_keys e) ⊎ IsAmong k (other_keys e))

-- resources whose aliases lead to one resource have one name, whoever owns them
abbrev pub OneSourceHasOneName : Type 0
OneSourceHasOneName = (c : Collection) → IsSound c → (r s t : Id) → Stands c (resource_key r) → Stands c (resource_key s) → IsSourceOf c r t → IsSourceOf c s t → root_name c r ≡ root_name c s

-- d has the resources, defined types and functions of c, whatever else it has
pub record HasLeavesOf (c d : Collection) : Type 0 where
  pub number : d.number ≡ c.number
  pub resources : d.resources ≡ c.resources
  pub defined : d.defined ≡ c.defined
  pub funcs : d.funcs ≡ c.funcs

-- the resources, values and functions of c stand for the same in d
pub record KeepsLeaves (c d : Collection) : Type 0 where
  pub names : (r : Id) → Stands c (resource_key r) → root_name c r ≡ root_name d r
  pub values : (v : ValueType) → AllStand c (value_keys v) → value_tree c v ≡ value_tree d v
  pub funcs : (p : Id) → Stands c (func_key p) → func_tree c p ≡ func_tree d p

abbrev pub LeavesDependOnLeaves : Type 0
LeavesDependOnLeaves = (c d : Collection) → IsSound c → IsSound d → HasLeavesOf c d → KeepsLeaves c d
