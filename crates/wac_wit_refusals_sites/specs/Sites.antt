-- What stands in files, and gives names of types there (WIT.md, "WIT Packages and `use`", "Item: `interface`" and "Worlds").
use Rattle.std.specs.Prelude.{◌≡◌, List, Contains, None, Option, Some, Vec}
use Rattle.std.specs.declared.alloc.Global.{Global}
use Rattle.wac_wit_scopes.specs.WitSources.{IsEnabled, ScopeSyntax, WitSources}
use Rattle.wac_wit_syntax.specs.declared.tree.Extern.TheVariants as extern
use Rattle.wac_wit_syntax.specs.declared.tree.ExternItem.{ExternItem}
use Rattle.wac_wit_syntax.specs.declared.tree.Ident.{Ident}
use Rattle.wac_wit_syntax.specs.declared.tree.InterfaceDecl.{InterfaceDecl}
use Rattle.wac_wit_syntax.specs.declared.tree.InterfaceItem.{InterfaceItem}
use Rattle.wac_wit_syntax.specs.declared.tree.InterfaceItem.TheVariants as inside
use Rattle.wac_wit_syntax.specs.declared.tree.TopItem.TheVariants as top
use Rattle.wac_wit_syntax.specs.declared.tree.TypeItem.{TypeItem}
use Rattle.wac_wit_syntax.specs.declared.tree.UseItem.{UseItem}
use Rattle.wac_wit_syntax.specs.declared.tree.WorldDecl.{WorldDecl}
use Rattle.wac_wit_syntax.specs.declared.tree.WorldItem.{WorldItem}
use Rattle.wac_wit_syntax.specs.declared.tree.WorldItem.TheVariants as world_item

-- the name that something has, or gets (`as`), as it stands there
abbrev pub alias_ident : Ident → Option Ident → Ident
alias_ident name None = name
alias_ident name (Some alias) = alias

-- what names of types are looked up in: the items of an interface, or those of a world
pub data BodySyntax : Type 0 where
  interface_items : List InterfaceItem → BodySyntax
  world_items : List WorldItem → BodySyntax

-- an import or an export of a world
pub data HasExternIn (is : List WorldItem) (x : ExternItem) : Type 0 where
  an_import : Contains is (world_item.Import x) → HasExternIn is x
  an_export : Contains is (world_item.Export x) → HasExternIn is x

-- an interface that is written in a world, as an import or an export that is there
pub data HasInlineIn (of : WitSources) (is : List WorldItem) : List InterfaceItem → Type 0 where
  an_inline : (x : ExternItem) (n : Ident) (js : Vec InterfaceItem Global) → HasExternIn is x → IsEnabled of x.gates → x.what ≡ extern.Inline n js → HasInlineIn of is js.items

-- an interface or a world of a scope, or an interface that is written in a world: no feature that is off hides it
pub data HasBody (of : WitSources) (w : ScopeSyntax) : BodySyntax → Type 0 where
  an_interface : (d : InterfaceDecl) → Contains w.items (top.Interface d) → IsEnabled of d.gates → HasBody of w (interface_items d.items.items)
  a_world : (d : WorldDecl) → Contains w.items (top.World d) → IsEnabled of d.gates → HasBody of w (world_items d.items.items)
  written_in : (d : WorldDecl) (js : List InterfaceItem) → Contains w.items (top.World d) → IsEnabled of d.gates → HasInlineIn of d.items.items js → HasBody of w (interface_items js)

-- a type is defined in it, whether a feature hides it or not
abbrev pub HasTypeItemIn : BodySyntax → TypeItem → Type 0
HasTypeItemIn (interface_items is) t = Contains is (inside.Type t)
HasTypeItemIn (world_items is) t = Contains is (world_item.Type t)

-- types are used in it, whether a feature hides that or not
abbrev pub HasUseIn : BodySyntax → UseItem → Type 0
HasUseIn (interface_items is) u = Contains is (inside.Use u)
HasUseIn (world_items is) u = Contains is (world_item.Use u)
