-- What interfaces stand for (WIT.md, "Item: `interface`").
use Rattle.std.specs.Prelude.{◌≡◌, List, [], Contains, Some, IsSome}
use Rattle.wac_model.specs.Text.{Text}
use Rattle.wac_model.specs.ItemTree.{ItemTree, Items, leaf, composite, func, interface, item, item_at, no_items, resource, type_item, value}
use Rattle.wac_model.specs.ValueTree.{FuncTree}
use Rattle.wac_wit_scopes.specs.WitSources.{WitSources, ScopeSyntax, IsEnabled, ident_text}
use Rattle.wac_wit_validation_types.specs.Denoted.{Denoted, NamesType, Setting, interface_setting, resource_type, value_type}
use Rattle.wac_wit_validation_types.specs.Functions.{HasMethod, IsFuncOf}
use Rattle.wac_wit_syntax.specs.declared.tree.FuncItem.{FuncItem}
use Rattle.wac_wit_syntax.specs.declared.tree.InterfaceItem.{InterfaceItem}

-- the tree of a type that has a name
abbrev pub named_tree : Denoted → ItemTree
named_tree (value_type v) = leaf type_item (value v)
named_tree (resource_type r) = leaf type_item (resource r)

-- what an interface exports under a name: its types, with those that it uses, and functions
pub data HasExportOf (s : Setting) : Text → ItemTree → Type 0 where
  a_type : {n : Text} {m : Denoted} → NamesType s n m → HasExportOf s n (named_tree m)
  a_func : {g : FuncTree} (f : FuncItem) → Contains s.funcs f → IsEnabled s.sources f.gates → IsFuncOf s f.signature [] (λ r. r) g → HasExportOf s (ident_text f.name) (leaf item (func g))
  a_method : {n : Text} {g : FuncTree} → HasMethod s n g → HasExportOf s n (leaf item (func g))

-- the tree of an interface: it exports what the text says, and nothing that the text says is left out
pub record IsInterfaceTree (of : WitSources) (w : ScopeSyntax) (is : List InterfaceItem) (t : ItemTree) : Type 0 where
  pub exports : Items
  pub tree : t ≡ composite item interface no_items exports
  pub each : (n : Text) (x : ItemTree) → item_at exports n ≡ Some x → HasExportOf (interface_setting of w is) n x
  pub all : (n : Text) (x : ItemTree) → HasExportOf (interface_setting of w is) n x → IsSome (item_at exports n)
