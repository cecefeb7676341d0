-- Functions (WIT.md, "Item: `func`").
use Rattle.std.specs.Prelude.{◌≡◌, Bool, true, false, codes, List, Option, Some, None}
use Rattle.wac_wit_syntax.specs.Gates.{IsGates}
use Rattle.wac_wit_syntax.specs.Lists.{Separated}
use Rattle.wac_wit_syntax.specs.Productions.{◌▸◌, Having, IsKind, IsName, IsWord, Nothing, Production, Spanning}
use Rattle.wac_wit_syntax.specs.Types.{IsTypeOf}
use Rattle.wac_wit_syntax.specs.declared.token.TokenKind.TheVariants.{Arrow, CloseParen, Colon, OpenParen, Semicolon}
use Rattle.wac_wit_syntax.specs.declared.tree.Field.{Field}
use Rattle.wac_wit_syntax.specs.declared.tree.FuncItem.{FuncItem}
use Rattle.wac_wit_syntax.specs.declared.tree.Signature.{Signature}
use Rattle.wac_wit_syntax.specs.declared.tree.TypeExpr.{TypeExpr}

-- named-type ::= id ':' ty
abbrev pub IsFieldDecl : Field → Production
IsFieldDecl f = Spanning f.span (IsName f.name ▸ IsKind Colon ▸ IsTypeOf f.ty)

-- param-list ::= '(' named-type-list ')'
abbrev pub IsParams : List Field → Production
IsParams params = IsKind OpenParen ▸ Separated IsFieldDecl params ▸ IsKind CloseParen

-- result-list ::= ϵ | '->' ty
abbrev pub IsReturns : Option TypeExpr → Production
IsReturns None = Nothing
IsReturns (Some t) = IsKind Arrow ▸ IsTypeOf t

-- 'async'?
abbrev pub MayBeAsync : Bool → Production
MayBeAsync false = Nothing
MayBeAsync true = IsWord (codes "async")

-- func-type ::= 'async'? 'func' param-list result-list, and the ';' of its item
abbrev pub IsSignature : Signature → Production
IsSignature f = Spanning f.span (MayBeAsync f.is_async ▸ IsWord (codes "func") ▸ IsParams f.params.items ▸ IsReturns f.returns) ▸ IsKind Semicolon

-- func-item ::= id ':' func-type ';'
-- Its place ends before the ';'.
abbrev pub IsFunc : FuncItem → Production
IsFunc f = IsGates f.gates ▸ Having (f.span ≡ record { start = f.name.span.start; end = f.signature.span.end }) (IsName f.name ▸ IsKind Colon ▸ IsSignature f.signature)
