-- A text as its tokens and the white space between them (WIT.md, "Lexical structure"):
--   token ::= whitespace | operator | keyword | integer | identifier
use Rattle.std.specs.Prelude.{◌≡◌, ◌⊎◌, ℕ, ◌+◌, ◌==◌, true, List, [], ◌∷◌, ◌++◌, Option, Some, None, if◌then◌else◌, length, drop, ⊤}
use Rattle.std.specs.List.{starts_with}
use Rattle.std.specs.Str.{chars}
use Rattle.wac_model.specs.Text.{Text}
use Rattle.wac_wit_syntax.specs.Bytes.{is_space}
use Rattle.wac_wit_syntax.specs.Characters.{none_refused}
use Rattle.wac_wit_syntax.specs.Comments.{IsBlockComment, IsLineComment, is_docs}
use Rattle.wac_wit_syntax.specs.Tokens.{IsToken, IsWhole}
use Rattle.wac_wit_syntax.specs.declared.positions.Span.{Span}
use Rattle.wac_wit_syntax.specs.declared.token.Token.{Token}
use Rattle.wac_wit_syntax.specs.declared.token.TokenKind.{TokenKind}
use Rattle.wac_wit_syntax.specs.declared.token.TokenKind.TheVariants.{End}

-- white space, or another token of a kind
pub data PartSort : Type 0 where
  white : PartSort
  token : TokenKind → PartSort

pub record Part : Type 0 where
  pub sort : PartSort
  pub text : Text

-- whitespace ::= ' ' | '\n' | '\r' | '\t' | comment
abbrev pub IsWhitespace : Text → Text → Type 0
IsWhitespace w behind = ((b : ℕ) × (w ≡ b ∷ []) × (is_space b ≡ true)) ⊎ (IsLineComment w behind ⊎ IsBlockComment w)

-- the text is a part of the sort, where this text stands behind it
abbrev pub IsOfSort : PartSort → Text → Text → Type 0
IsOfSort white w behind = IsWhitespace w behind
IsOfSort (token kind) w behind = IsToken kind w × IsWhole kind behind

-- with no part does the text begin
abbrev pub HasNoPart : Text → Type 0
HasNoPart text = (sort : PartSort) (w behind : Text) → IsOfSort sort w behind → w ++ behind ≡ text → ⊥

-- the text of parts, one after another
abbrev pub spelled : List Part → Text
spelled [] = []
spelled (p ∷ ps) = p.text ++ spelled ps

-- each is a part, before those behind it
abbrev pub AreParts : List Part → Type 0
AreParts [] = ⊤
AreParts (p ∷ ps) = IsOfSort p.sort p.text (spelled ps) × AreParts ps

-- the text is cut into these parts
abbrev pub IsCut : List Part → Text → Type 0
IsCut ps text = (spelled ps ≡ text) × AreParts ps

-- ---- tokens with their places

-- so many bytes from a place on
abbrev pub span_at : ℕ → ℕ → Span
span_at at n = record { start = at; end = at + n }

-- documentation up to here, with one comment more: from the first to the last
abbrev pub with_docs : Option Span → Span → Option Span
with_docs None last = Some last
with_docs (Some first) last = Some (record { start = first.start; end = last.end })

-- documentation up to a part, with the part; a token has taken what stands before it
abbrev pub docs_after : ℕ → Option Span → PartSort → Text → Option Span
docs_after at docs white w = if is_docs w then with_docs docs (span_at at (length w)) else docs
docs_after at docs (token kind) w = None

-- the token that a part is, with its place and the documentation before it; none where it is white space
abbrev pub token_of : ℕ → Option Span → PartSort → Text → List Token
token_of at docs white w = []
token_of at docs (token kind) w = record { kind = kind; span = span_at at (length w); docs = docs } ∷ []

-- the tokens of parts that begin at a place, behind such documentation; the end of the text is the last
abbrev pub tokens_of : ℕ → Option Span → List Part → List Token
tokens_of at docs [] = record { kind = End; span = record { start = at; end = at }; docs = docs } ∷ []
tokens_of at docs (p ∷ ps) = token_of at docs p.sort p.text ++ tokens_of (at + length p.text) (docs_after at docs p.sort p.text) ps

-- ---- whole texts

-- a byte order mark, which may stand at the start of a text
abbrev pub mark : Text
mark = 0xef ∷ 0xbb ∷ 0xbf ∷ []

-- where a text begins: behind its byte order mark
abbrev pub first_place : Text → ℕ
first_place text = if starts_with (λ a b. a == b) text mark then 3 else 0

-- The tokens are what the text says: no character of it is refused, and behind its byte order mark it
-- is cut into parts whose tokens these are.
pub record IsRead (text : Text) (tokens : List Token) : Type 0 where
  pub shown : none_refused (chars text) ≡ true
  pub parts : List Part
  pub cut : IsCut parts (drop (first_place text) text)
  pub tokens_are : tokens ≡ tokens_of (first_place text) None parts
