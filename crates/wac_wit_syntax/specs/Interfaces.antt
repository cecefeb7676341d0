-- Interfaces (WIT.md, "Item: `interface`" and "Item: `use`").
use Rattle.std.specs.Prelude.{Bool, true, false, codes, Option, Some, None}
use Rattle.wac_wit_syntax.specs.Functions.{IsFunc}
use Rattle.wac_wit_syntax.specs.Gates.{IsGates}
use Rattle.wac_wit_syntax.specs.Paths.{IsPath}
use Rattle.wac_wit_syntax.specs.Productions.{◌▸◌, IsKind, IsName, IsWord, Nothing, Production}
use Rattle.wac_wit_syntax.specs.Typedefs.{IsBraced, IsTypeItem}
use Rattle.wac_wit_syntax.specs.declared.token.TokenKind.TheVariants.{Dot, Semicolon}
use Rattle.wac_wit_syntax.specs.declared.tree.Ident.{Ident}
use Rattle.wac_wit_syntax.specs.declared.tree.InterfaceItem.{InterfaceItem}
use Rattle.wac_wit_syntax.specs.declared.tree.InterfaceItem.TheVariants as item
use Rattle.wac_wit_syntax.specs.declared.tree.Rename.{Rename}
use Rattle.wac_wit_syntax.specs.declared.tree.UseItem.{UseItem}

-- ('as' id)?, which may be needed
abbrev pub IsAlias : Bool → Option Ident → Production
IsAlias needed (Some id) = IsWord (codes "as") ▸ IsName id
IsAlias false None = Nothing
IsAlias true None = λ s i j. ⊥

-- use-names-item ::= id | id 'as' id, include-names-item ::= id 'as' id
abbrev pub IsRename : Bool → Rename → Production
IsRename needed r = IsName r.name ▸ IsAlias needed r.alias

-- use-item ::= 'use' use-path '.' '{' use-names-list '}' ';'
abbrev pub IsUse : UseItem → Production
IsUse u = IsGates u.gates ▸ IsWord (codes "use") ▸ IsPath u.path ▸ IsKind Dot ▸ IsBraced (IsRename false) u.names.items ▸ IsKind Semicolon

-- interface-items ::= gate (use-item | typedef-item | func-item)
abbrev pub IsInterfaceItem : InterfaceItem → Production
IsInterfaceItem (item.Use u) = IsUse u
IsInterfaceItem (item.Type t) = IsTypeItem t
IsInterfaceItem (item.Func f) = IsFunc f
