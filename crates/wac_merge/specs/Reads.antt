-- What is read of the entries that a meet or a join is made of.
use Rattle.std.specs.Prelude.{◌≡◌, ◌<◌, [], Some, None, length}
use Rattle.std.specs.Option.{option_map_or}
use Rattle.wac_model.specs.CoreTree.{ModuleContent, module_of}
use Rattle.wac_model.specs.ItemTree.{no_items}
use Rattle.wac_component.specs.Id.{Id}
use Rattle.wac_component.specs.Collection.{Collection, InterfaceContent, WorldContent}
use Rattle.wac_component.specs.Height.{height, keys_height}
use Rattle.wac_component.specs.Key.{Key, Stands, AllStand, Entry, interface_entry, world_entry, module_entry, entry_at, interface_key, world_key, module_key}
use Rattle.wac_component.specs.Growth.{with_entry}
use Rattle.wac_component.specs.Tree.{externs, items_of, item_tree, module_tree}
use Rattle.wac_merge.specs.Built.{uses_of_both}
use Rattle.wac_merge.specs.Items.{ExternKinds, extern_keys}
use Rattle.wac_merge.specs.declared.memo.Bound.{Bound}
use Rattle.wac_merge.specs.declared.memo.Bound.TheVariants.{Meet, Join}

-- the interface has these exports, which stand and are lower
pub record HasExports (c : Collection) (x : Id) (es : ExternKinds) : Type 0 where
  pub entry : InterfaceContent
  pub at : entry_at c (interface_key x) ≡ Some (interface_entry entry)
  pub tree : externs c (interface_key x) ≡ record { imports = no_items; exports = items_of (item_tree c) es }
  pub exports : entry.exports ≡ es
  pub standing : AllStand c (extern_keys es)
  pub lower : keys_height c (extern_keys es) < height c (interface_key x)

-- what an entry says that it imports, which only a world does, and exports
abbrev pub entry_imports : Entry → ExternKinds
entry_imports (world_entry w) = w.imports
entry_imports e = []

abbrev pub exports_in_entry : Entry → ExternKinds
exports_in_entry (interface_entry i) = i.exports
exports_in_entry (world_entry w) = w.exports
exports_in_entry e = []

-- what the entry of an id says that it imports and exports
unfoldable pub imports_at : Collection → Key → ExternKinds
imports_at c k = option_map_or entry_imports (entry_at c k) []

unfoldable pub exports_at : Collection → Key → ExternKinds
exports_at c k = option_map_or exports_in_entry (entry_at c k) []

-- of a world that which is met, for a meet or a join, and that which is joined
abbrev pub met_at : Bound → Collection → Key → ExternKinds
met_at Meet c k = exports_at c k
met_at Join c k = imports_at c k

abbrev pub joined_at : Bound → Collection → Key → ExternKinds
joined_at Meet c k = imports_at c k
joined_at Join c k = exports_at c k

-- the interface at p is all that d has more than c: it has these exports,
-- and uses what two interfaces do
pub record IsInterfaceOfBoth (c d : Collection) (x y : Id) (es : ExternKinds) (p : Id) : Type 0 where
  pub first : InterfaceContent
  pub second : InterfaceContent
  pub first_at : entry_at c (interface_key x) ≡ Some (interface_entry first)
  pub second_at : entry_at c (interface_key y) ≡ Some (interface_entry second)
  pub added : d ≡ with_entry c (interface_entry (record { id = None; uses = uses_of_both first.uses second.uses; exports = es }))
  pub placed : p ≡ record { number = c.number; index = length c.interfaces }
  pub stands : Stands d (interface_key p)
  pub tree : externs d (interface_key p) ≡ record { imports = no_items; exports = items_of (item_tree c) es }

-- the world at p is all that d has more than c: it has these imports and
-- exports, and uses what two worlds do
pub record IsWorldOfBoth (c d : Collection) (x y : Id) (is es : ExternKinds) (p : Id) : Type 0 where
  pub first : WorldContent
  pub second : WorldContent
  pub first_at : entry_at c (world_key x) ≡ Some (world_entry first)
  pub second_at : entry_at c (world_key y) ≡ Some (world_entry second)
  pub added : d ≡ with_entry c (world_entry (record { id = None; uses = uses_of_both first.uses second.uses; imports = is; exports = es }))
  pub placed : p ≡ record { number = c.number; index = length c.worlds }
  pub stands : Stands d (world_key p)
  pub tree : externs d (world_key p) ≡ record { imports = items_of (item_tree c) is; exports = items_of (item_tree c) es }

-- the core module at p is all that d has more than c
pub record IsModuleAdded (c d : Collection) (t : ModuleContent) (p : Id) : Type 0 where
  pub added : d ≡ with_entry c (module_entry (module_of t))
  pub placed : p ≡ record { number = c.number; index = length c.modules }
  pub stands : Stands d (module_key p)
  pub tree : (module_tree d p).content ≡ t
