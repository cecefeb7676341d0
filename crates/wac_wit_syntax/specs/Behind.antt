-- What the reader promises of items whose beginning was read before.
use Rattle.std.specs.Prelude.{◌≡◌, ◌≢◌, ◌⊎◌, ◌+◌, ◌-◌, IsSome, Option, Bool, true, false, codes, None, vec_len}
use Rattle.wac_model.specs.Text.{Text}
use Rattle.wac_wit_syntax.specs.Completing.{AnyOf, IsReadable}
use Rattle.wac_wit_syntax.specs.Cursors.{Reads, source}
use Rattle.wac_wit_syntax.specs.Documents.{IsTopItem}
use Rattle.wac_wit_syntax.specs.Functions.{IsFieldDecl, IsParams, IsReturns, IsSignature}
use Rattle.wac_wit_syntax.specs.Interfaces.{IsAlias, IsInterfaceItem, IsRename}
use Rattle.wac_wit_syntax.specs.Lists.{IsBlock, Separated}
use Rattle.wac_wit_syntax.specs.Paths.{IsPackageName, IsPath}
use Rattle.wac_wit_syntax.specs.Productions.{◌▸◌, Having, IsKind, IsName, IsWord, Nothing, Production, SaysWord, token_at}
use Rattle.wac_wit_syntax.specs.Typedefs.{IsBody, word_of}
use Rattle.wac_wit_syntax.specs.Worlds.{AreRenames, IsWorldItem}
use Rattle.wac_wit_syntax.specs.declared.cursor.Cursor.{Cursor}
use Rattle.wac_wit_syntax.specs.declared.positions.Span.{Span}
use Rattle.wac_wit_syntax.specs.declared.token.TokenKind.TheVariants.{CloseBrace, CloseParen, Colon, Dot, OpenBrace, OpenParen, Semicolon, Word}
use Rattle.wac_wit_syntax.specs.declared.tree.Document.{Document}
use Rattle.wac_wit_syntax.specs.declared.tree.Gates.{Gates}
use Rattle.wac_wit_syntax.specs.declared.tree.Signature.{Signature}
use Rattle.wac_wit_syntax.specs.declared.typedefs.DefWord.{DefWord}
use Rattle.wac_wit_syntax.specs.declared.typedefs.DefWord.TheVariants as word

-- where the one stands before, all is the other
abbrev pub ReadsAfter : Production → Cursor → Cursor → Production → Type 0
ReadsAfter P c d Q = (before : Cursor) → Reads before c P → Reads before d Q

-- the same, where this word comes next
abbrev pub ReadsAfterWord : Production → Text → Cursor → Cursor → Production → Type 0
ReadsAfterWord P w c d Q = (before : Cursor) → Reads before c P → SaysWord (source c) c.next w → Reads before d Q

-- the parameters and the result of a function, which has this place, and the `;` of its item
pub record ReadsSignature (start : Span) (f : Signature) (c d : Cursor) : Type 0 where
  pub end : Cursor
  pub last : Span
  pub parts : Reads c end (IsParams f.params.items ▸ IsReturns f.returns)
  pub semicolon : Reads end d (IsKind Semicolon)
  pub last_is : last ≡ (token_at (source end) (end.next - 1)).span
  pub span_is : f.span ≡ record { start = start.start; end = last.end }

-- the parameters, the result and the `;`, whatever they are
abbrev pub IsSignatureRest : Production
IsSignatureRest = (IsKind OpenParen ▸ AnyOf (Separated IsFieldDecl) ▸ IsKind CloseParen) ▸ AnyOf IsReturns ▸ IsKind Semicolon

-- the word with which a type begins
abbrev pub def_text : DefWord → Text
def_text word.Alias = codes "type"
def_text word.Record = codes "record"
def_text word.Variant = codes "variant"
def_text word.Flags = codes "flags"
def_text word.Enum = codes "enum"
def_text word.Resource = codes "resource"

-- what stands behind the name of a type that begins with this word
abbrev pub IsBodyOf : DefWord → Production
IsBodyOf w = AnyOf (λ def. Having (word_of def ≡ def_text w) (IsBody def))

abbrev pub MayBeStatic : Bool → Production
MayBeStatic false = Nothing
MayBeStatic true = IsWord (codes "static")

-- a function of a resource but its constructor, behind the attributes
abbrev pub IsNamedMethod : Production
IsNamedMethod = (AnyOf IsName ▸ IsKind Colon) ▸ AnyOf MayBeStatic ▸ AnyOf IsSignature

-- a function behind its attributes, and `use` behind its own
abbrev pub IsFuncRest : Production
IsFuncRest = (AnyOf IsName ▸ IsKind Colon) ▸ AnyOf IsSignature

abbrev pub IsUseRest : Production
IsUseRest = IsKind Word ▸ AnyOf IsPath ▸ IsKind Dot ▸ (IsKind OpenBrace ▸ AnyOf (Separated (IsRename false)) ▸ IsKind CloseBrace) ▸ IsKind Semicolon

-- `include`, an import or an export behind its attributes
abbrev pub IsIncludeRest : Production
IsIncludeRest = IsKind Word ▸ AnyOf IsPath ▸ AnyOf AreRenames

-- what is imported or exported under a name, behind its colon
abbrev pub IsNamedRest : Production
IsNamedRest = λ s i j. AnyOf IsSignature s i j
    ⊎ ((IsWord (codes "interface") ▸ AnyOf (IsBlock IsInterfaceItem)) s i j ⊎ (AnyOf IsPath ▸ IsKind Semicolon) s i j)

-- an interface or a world behind its attributes, and a `use` of a file
abbrev pub IsDeclOf : {X : Type 0} → (X → Production) → Production
IsDeclOf P = IsKind Word ▸ AnyOf IsName ▸ AnyOf (IsBlock P)

abbrev pub IsTopUseRest : Production
IsTopUseRest = IsKind Word ▸ AnyOf IsPath ▸ AnyOf (IsAlias false) ▸ IsKind Semicolon

-- no attribute stands before
abbrev pub HasNoGate : Gates → Type 0
HasNoGate g = (g.since ≡ None) × (g.unstable ≡ None) × (g.deprecated ≡ None)

-- an item of a file behind these attributes: a `use` has none
abbrev pub TopRest : Gates → Production
TopRest g = λ s i j. (SaysWord s i (codes "interface") × IsDeclOf IsInterfaceItem s i j)
    ⊎ ((SaysWord s i (codes "world") × IsDeclOf IsWorldItem s i j) ⊎ (SaysWord s i (codes "use") × HasNoGate g × IsTopUseRest s i j))

-- nothing of a file is read so far
abbrev pub HasNothing : Document → Type 0
HasNothing d = (d.«package» ≡ None) × (vec_len d.items ≡ 0) × (vec_len d.packages ≡ 0)

-- from the word `package` on: the name of the file's package, before all else, or a package inside the file
abbrev pub PackageRest : Document → Production
PackageRest d = λ s i j. (HasNothing d × (IsKind Word ▸ AnyOf IsPackageName ▸ IsKind Semicolon) s i j)
    ⊎ (IsKind Word ▸ AnyOf IsPackageName ▸ AnyOf (IsBlock IsTopItem)) s i j

-- what may come next in a file
abbrev pub TopStep : Document → Production
TopStep d = λ s i j. (SaysWord s i (codes "package") × PackageRest d s i j) ⊎ AnyOf IsTopItem s i j

-- where a type with a name begins with one of the words, one is answered
abbrev pub TellsDef : Cursor → Option DefWord → Type 0
TellsDef c o = (w : DefWord) → IsReadable (source c) → SaysWord (source c) c.next (def_text w) → (token_at (source c) (c.next + 1)).kind ≢ Colon → IsSome o
