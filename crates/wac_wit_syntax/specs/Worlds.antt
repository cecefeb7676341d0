-- Worlds (WIT.md, "Item: `world`" and "Item: `include`").
use Rattle.std.specs.Prelude.{◌≡◌, ◌⊎◌, true, codes, List, []}
use Rattle.wac_wit_syntax.specs.Functions.{IsSignature}
use Rattle.wac_wit_syntax.specs.Gates.{IsGates}
use Rattle.wac_wit_syntax.specs.Interfaces.{IsInterfaceItem, IsRename, IsUse}
use Rattle.wac_wit_syntax.specs.Lists.{IsBlock}
use Rattle.wac_wit_syntax.specs.Paths.{IsPath}
use Rattle.wac_wit_syntax.specs.Productions.{◌▸◌, IsKind, IsName, IsWord, Production, Spanning}
use Rattle.wac_wit_syntax.specs.Typedefs.{IsBraced, IsTypeItem}
use Rattle.wac_wit_syntax.specs.declared.token.TokenKind.TheVariants.{Colon, Semicolon}
use Rattle.wac_wit_syntax.specs.declared.tree.Extern.{Extern}
use Rattle.wac_wit_syntax.specs.declared.tree.Extern.TheVariants as extern
use Rattle.wac_wit_syntax.specs.declared.tree.ExternItem.{ExternItem}
use Rattle.wac_wit_syntax.specs.declared.tree.IncludeItem.{IncludeItem}
use Rattle.wac_wit_syntax.specs.declared.tree.Rename.{Rename}
use Rattle.wac_wit_syntax.specs.declared.tree.WorldItem.{WorldItem}
use Rattle.wac_wit_syntax.specs.declared.tree.WorldItem.TheVariants as item
use Rattle.wac_model.specs.Text.{Text}

-- ';' | 'with' '{' include-names-list '}'
abbrev pub AreRenames : List Rename → Production
AreRenames rs = λ s i j. ((rs ≡ []) × IsKind Semicolon s i j) ⊎ (IsWord (codes "with") ▸ IsBraced (IsRename true) rs) s i j

-- include-item ::= 'include' use-path ';' | 'include' use-path 'with' '{' include-names-list '}'
abbrev pub IsInclude : IncludeItem → Production
IsInclude n = IsGates n.gates ▸ IsWord (codes "include") ▸ IsPath n.path ▸ AreRenames n.renames.items

-- extern-type ::= use-path ';' | id ':' func-type ';' | id ':' 'interface' '{' interface-items* '}' | id ':' use-path ';'
abbrev pub IsExtern : Extern → Production
IsExtern (extern.Path path) = IsPath path ▸ IsKind Semicolon
IsExtern (extern.Func name f) = IsName name ▸ IsKind Colon ▸ IsSignature f
IsExtern (extern.Inline name items) = IsName name ▸ IsKind Colon ▸ IsWord (codes "interface") ▸ IsBlock IsInterfaceItem items.items
IsExtern (extern.Named name path) = IsName name ▸ IsKind Colon ▸ IsPath path ▸ IsKind Semicolon

-- export-item ::= 'export' .., import-item ::= 'import' ..
abbrev pub IsExternItem : Text → ExternItem → Production
IsExternItem word e = IsGates e.gates ▸ IsWord word ▸ Spanning e.span (IsExtern e.what)

-- world-items ::= gate (export-item | import-item | use-item | typedef-item | include-item)
abbrev pub IsWorldItem : WorldItem → Production
IsWorldItem (item.Use u) = IsUse u
IsWorldItem (item.Type t) = IsTypeItem t
IsWorldItem (item.Include n) = IsInclude n
IsWorldItem (item.Import e) = IsExternItem (codes "import") e
IsWorldItem (item.Export e) = IsExternItem (codes "export") e
