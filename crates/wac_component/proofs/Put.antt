-- An entry that names what is kept stands for what it says, by what
-- the collection before stood for.
use Rattle.std.proofs.Common.{◌≡◌, Some, [], slice_get, ◌∙◌}
use Rattle.wac_component.specs.Id.{Id}
use Rattle.wac_component.specs.Collection.{Collection, DefinedContent, ResourceContent, FuncContent, InterfaceContent, WorldContent}
use Rattle.wac_component.specs.Key.{Key, Each, Stands, defined_key, resource_key, interface_key, world_key, resource_entry, defined_keys, resource_keys, func_keys, interface_keys, world_keys}
use Rattle.wac_component.specs.Sound.{IsSound}
use Rattle.wac_component.specs.Unfolding.{unfolded}
use Rattle.wac_component.specs.Tree.{value_tree, content_tree, root_name, content_name, entry_name, func_tree, func_content_tree, externs, interface_externs, world_externs, item_tree}
use Rattle.wac_component.specs.declared.items.ValueType.TheVariants.{Defined}
use Rattle.wac_component.proofs.Unfolded.{Keeps}
use Rattle.wac_component.proofs.Trees.{value_tree-entry, root_name-entry, func_tree-entry, interface-externs, world-externs, interface_externs-agree, world_externs-agree, content_tree-agree, func_content_tree-agree, entry_name-local}
use Rattle.wac_component.proofs.Kept.{value_tree-kept, name-kept, item_tree-kept}

module _ (c d : Collection) (P : Key → Type 0) (keeps : Keeps c d P) (s : IsSound d) (p : Id) where
  pub value_tree-put : (e : DefinedContent) → Stands d (defined_key p) → slice_get d.defined p.index ≡ Some e → Each P (defined_keys e) → value_tree d (Defined p) ≡ content_tree (value_tree c) e
  value_tree-put e st is named = value_tree-entry d p e s st is ∙ content_tree-agree P (value_tree d) (value_tree c) (value_tree-kept c d P keeps) e named

  pub root_name-put : (e : ResourceContent) → Stands d (resource_key p) → slice_get d.resources p.index ≡ Some e → Each P (resource_keys e) → root_name d p ≡ content_name (root_name c) e
  root_name-put e st is named = root_name-entry d p e s st is ∙ entry_name-local P (unfolded [] entry_name d) (unfolded [] entry_name c) (name-kept c d P keeps) (resource_entry e) named

  pub func_tree-put : (e : FuncContent) → slice_get d.funcs p.index ≡ Some e → Each P (func_keys e) → func_tree d p ≡ func_content_tree c e
  func_tree-put e is named = func_tree-entry d p e is ∙ func_content_tree-agree d c P (value_tree-kept c d P keeps) e named

  pub interface_externs-put : (e : InterfaceContent) → Stands d (interface_key p) → slice_get d.interfaces p.index ≡ Some e → Each P (interface_keys e) → externs d (interface_key p) ≡ interface_externs (item_tree c) e
  interface_externs-put e st is named = interface-externs d p e s st is ∙ interface_externs-agree P (item_tree d) (item_tree c) (item_tree-kept c d P keeps) e named

  pub world_externs-put : (e : WorldContent) → Stands d (world_key p) → slice_get d.worlds p.index ≡ Some e → Each P (world_keys e) → externs d (world_key p) ≡ world_externs (item_tree c) e
  world_externs-put e st is named = world-externs d p e s st is ∙ world_externs-agree P (item_tree d) (item_tree c) (item_tree-kept c d P keeps) e named
