-- Where a collection changes, what reaches only unchanged entries keeps its tree and its height.
use Rattle.std.proofs.Common.{◌≡◌, Option, Some, None, [], slice_get, refl, sym, ◌∙◌, false}
use Rattle.std.specs.Option.{option_map, option_map_or}
use Rattle.wac_model.specs.ValueTree.{FuncTree, node, no_parts, tuple}
use Rattle.wac_model.specs.CoreTree.{ModuleTree}
use Rattle.wac_model.specs.ItemTree.{no_items}
use Rattle.wac_component.specs.Id.{Id}
use Rattle.wac_component.specs.Collection.{Collection, FuncContent}
use Rattle.wac_component.specs.Key.{Key, func_entry, module_entry, Each, func_key, module_key, resource_key, value_keys, item_keys, optional_keys, entry_keys}
use Rattle.wac_component.specs.Unfolding.{unfolded}
use Rattle.wac_component.specs.Height.{height, entry_height}
use Rattle.wac_component.specs.Tree.{entry_name, root_name, entry_value, defined_tree, value_tree, func_content_tree, func_tree, module_tree, entry_externs, externs, item_tree}
use Rattle.wac_component.specs.declared.items.ValueType.{ValueType}
use Rattle.wac_component.specs.declared.items.ItemKind.{ItemKind}
use Rattle.wac_component.proofs.Lists.{slice_get-map}
use Rattle.wac_component.proofs.Unfolded.{Keeps, unfolded-kept, entry_height-local}
use Rattle.wac_component.proofs.Trees.{SameLeaves, entry_name-local, entry_value-local, entry_value-agree, entry_externs-local, entry_externs-agree, value_tree_by-agree, func_content_tree-agree, item_tree_by-agree}

func_same : (o o' : Option FuncContent) → option_map func_entry o ≡ option_map func_entry o' → o ≡ o'
func_same None None e = refl
func_same None (Some f) e = absurd (cc)
func_same (Some f) None e = absurd (cc)
func_same (Some f) (Some g) e = cc

module_same : (o o' : Option ModuleTree) → option_map module_entry o ≡ option_map module_entry o' → o ≡ o'
module_same None None e = refl
module_same None (Some f) e = absurd (cc)
module_same (Some f) None e = absurd (cc)
module_same (Some f) (Some g) e = cc

module _ (c d : Collection) (P : Key → Type 0) (keeps : Keeps c d P) where
  pub height-kept : (k : Key) → P k → height d k ≡ height c k
  height-kept = unfolded-kept 0 entry_height entry_height-local entry_height c d P keeps (entry_height-local P)

  pub name-kept : (k : Key) → P k → unfolded [] entry_name d k ≡ unfolded [] entry_name c k
  name-kept = unfolded-kept [] entry_name entry_name-local entry_name c d P keeps (entry_name-local P)

  pub root_name-kept : (r : Id) → P (resource_key r) → root_name d r ≡ root_name c r
  root_name-kept r = name-kept (resource_key r)

  defined_tree-kept : (k : Key) → P k → defined_tree d k ≡ defined_tree c k
  defined_tree-kept = unfolded-kept (node tuple no_parts) (entry_value c) (entry_value-local c) (entry_value d) c d P keeps (entry_value-agree d c P root_name-kept)

  pub value_tree-kept : (v : ValueType) → Each P (value_keys v) → value_tree d v ≡ value_tree c v
  value_tree-kept = value_tree_by-agree d c P root_name-kept (defined_tree d) (defined_tree c) defined_tree-kept

  func_at : (p : Id) → P (func_key p) → slice_get d.funcs p.index ≡ slice_get c.funcs p.index
  func_at p h = func_same _ _ (sym (slice_get-map func_entry d.funcs p.index) ∙ keeps.same_entry (func_key p) h ∙ slice_get-map func_entry c.funcs p.index)

  module_at : (p : Id) → P (module_key p) → slice_get d.modules p.index ≡ slice_get c.modules p.index
  module_at p h = module_same _ _ (sym (slice_get-map module_entry d.modules p.index) ∙ keeps.same_entry (module_key p) h ∙ slice_get-map module_entry c.modules p.index)

  func_entry_kept : (o : Option FuncContent) (t : FuncTree) → Each P (optional_keys entry_keys (option_map func_entry o)) → option_map_or (func_content_tree d) o t ≡ option_map_or (func_content_tree c) o t
  func_entry_kept None t all = refl
  func_entry_kept (Some f) t all = func_content_tree-agree d c P value_tree-kept f all

  func_tree-kept : (p : Id) → P (func_key p) → func_tree d p ≡ func_tree c p
  func_tree-kept p h =
      let named : Each P (optional_keys entry_keys (option_map func_entry (slice_get c.funcs p.index))) = rw (slice_get-map func_entry c.funcs p.index) at (keeps.closed (func_key p) h) in
      rw (func_at p h) (func_entry_kept (slice_get c.funcs p.index) (record { params = []; «result» = None; is_async = false }) named)

  module_tree-kept : (p : Id) → P (module_key p) → module_tree d p ≡ module_tree c p
  module_tree-kept p h = rw (module_at p h) refl

  leaves_kept : SameLeaves d c P
  leaves_kept = record { names = root_name-kept; values = value_tree-kept; funcs = func_tree-kept; modules = module_tree-kept }

  externs-kept : (k : Key) → P k → externs d k ≡ externs c k
  externs-kept = unfolded-kept (record { imports = no_items; exports = no_items }) (entry_externs c) (entry_externs-local c) (entry_externs d) c d P keeps (entry_externs-agree d c P leaves_kept)

  pub item_tree-kept : (i : ItemKind) → Each P (item_keys i) → item_tree d i ≡ item_tree c i
  item_tree-kept = item_tree_by-agree d c P leaves_kept (externs d) (externs c) externs-kept
