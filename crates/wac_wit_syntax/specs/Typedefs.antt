-- Types with names (WIT.md, "Item: `type`", "Item: `record`" and so on, "Item: `resource`").
use Rattle.std.specs.Prelude.{◌≡◌, ◌⊎◌, false, codes, List, [], Option, Some, None, string_bytes}
use Rattle.wac_model.specs.Text.{Text}
use Rattle.wac_wit_syntax.specs.Functions.{IsFieldDecl, IsParams, IsReturns, IsSignature}
use Rattle.wac_wit_syntax.specs.Gates.{IsGates}
use Rattle.wac_wit_syntax.specs.Lists.{IsBlock, Separated}
use Rattle.wac_wit_syntax.specs.Productions.{◌▸◌, Having, IsKind, IsName, IsWord, Nothing, Production, Spanning, token_at}
use Rattle.wac_wit_syntax.specs.Types.{IsTypeOf}
use Rattle.wac_wit_syntax.specs.declared.token.TokenKind.TheVariants.{CloseBrace, CloseParen, Colon, Equals, OpenBrace, OpenParen, Semicolon}
use Rattle.wac_wit_syntax.specs.declared.tree.Case.{Case}
use Rattle.wac_wit_syntax.specs.declared.tree.Method.{Method}
use Rattle.wac_wit_syntax.specs.declared.tree.MethodKind.{MethodKind}
use Rattle.wac_wit_syntax.specs.declared.tree.MethodKind.TheVariants as kind
use Rattle.wac_wit_syntax.specs.declared.tree.TypeDef.{TypeDef}
use Rattle.wac_wit_syntax.specs.declared.tree.TypeDef.TheVariants as def
use Rattle.wac_wit_syntax.specs.declared.tree.TypeExpr.{TypeExpr}
use Rattle.wac_wit_syntax.specs.declared.tree.TypeItem.{TypeItem}

-- members between braces
abbrev pub IsBraced : {X : Type 0} → (X → Production) → List X → Production
IsBraced P xs = IsKind OpenBrace ▸ Separated P xs ▸ IsKind CloseBrace

-- ('(' ty ')')?
abbrev pub IsPayloadDecl : Option TypeExpr → Production
IsPayloadDecl None = Nothing
IsPayloadDecl (Some t) = IsKind OpenParen ▸ IsTypeOf t ▸ IsKind CloseParen

-- variant-case ::= id | id '(' ty ')'
abbrev pub IsCaseDecl : Case → Production
IsCaseDecl c = Spanning c.span (IsName c.name ▸ IsPayloadDecl c.ty)

-- resource-method ::= func-item | id ':' 'static' func-type ';' | 'constructor' param-list ';'
-- The name of a constructor is its word, and it may have a result too.
abbrev pub IsMethodBody : MethodKind → Method → Production
IsMethodBody kind.Method m = Having (m.span ≡ record { start = m.name.span.start; end = m.signature.span.end }) (IsName m.name ▸ IsKind Colon ▸ IsSignature m.signature)
IsMethodBody kind.Static m = Having (m.span ≡ record { start = m.name.span.start; end = m.signature.span.end }) (IsName m.name ▸ IsKind Colon ▸ IsWord (codes "static") ▸ IsSignature m.signature)
IsMethodBody kind.Constructor m =
    Having ((string_bytes m.name.name ≡ codes "constructor") × (m.span ≡ m.signature.span) × (m.signature.is_async ≡ false))
    (Spanning m.span ((λ s i j. IsWord (codes "constructor") s i j × (m.name.span ≡ (token_at s i).span)) ▸ IsParams m.signature.params.items ▸ IsReturns m.signature.returns) ▸ IsKind Semicolon)

abbrev pub IsMethod : Method → Production
IsMethod m = IsGates m.gates ▸ IsMethodBody m.kind m

-- ';' | '{' resource-method* '}'
abbrev pub AreMethods : List Method → Production
AreMethods ms = λ s i j. ((ms ≡ []) × IsKind Semicolon s i j) ⊎ IsBlock IsMethod ms s i j

-- the word with which a type begins, and what stands behind its name
abbrev pub word_of : TypeDef → Text
word_of (def.Alias t) = codes "type"
word_of (def.Record fields) = codes "record"
word_of (def.Variant cases) = codes "variant"
word_of (def.Flags names) = codes "flags"
word_of (def.Enum names) = codes "enum"
word_of (def.Resource methods) = codes "resource"

abbrev pub IsBody : TypeDef → Production
IsBody (def.Alias t) = IsKind Equals ▸ IsTypeOf t ▸ IsKind Semicolon
IsBody (def.Record fields) = IsBraced IsFieldDecl fields.items
IsBody (def.Variant cases) = IsBraced IsCaseDecl cases.items
IsBody (def.Flags names) = IsBraced IsName names.items
IsBody (def.Enum names) = IsBraced IsName names.items
IsBody (def.Resource methods) = AreMethods methods.items

-- typedef-item ::= 'type' id '=' ty ';' | 'record' id '{' .. '}' | 'variant' id '{' .. '}' | 'flags' id '{' .. '}'
--                | 'enum' id '{' .. '}' | 'resource' id ..
abbrev pub IsTypedef : TypeItem → Production
IsTypedef t = Spanning t.span (IsWord (word_of t.def) ▸ IsName t.name ▸ IsBody t.def)

abbrev pub IsTypeItem : TypeItem → Production
IsTypeItem t = IsGates t.gates ▸ IsTypedef t
