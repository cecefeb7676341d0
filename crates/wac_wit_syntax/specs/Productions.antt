-- What the productions over tokens are made of, and names (WIT.md, "Lexical structure" and "Identifiers").
use Rattle.std.specs.Prelude.{◌≡◌, ◌⊎◌, ℕ, ◌+◌, ◌-◌, Bool, false, List, None, drop, length, slice_get, slice_range, string_bytes, unwrap_or}
use Rattle.std.specs.List.{list_any}
use Rattle.std.specs.Str.{bytes_eq}
use Rattle.wac_model.specs.Text.{Text}
use Rattle.wac_wit_syntax.specs.Names.{keywords}
use Rattle.wac_wit_syntax.specs.declared.positions.Span.{Span}
use Rattle.wac_wit_syntax.specs.declared.token.Token.{Token}
use Rattle.wac_wit_syntax.specs.declared.token.TokenKind.{TokenKind}
use Rattle.wac_wit_syntax.specs.declared.token.TokenKind.TheVariants.{End, Word, Escaped}
use Rattle.wac_wit_syntax.specs.declared.tree.Ident.{Ident}

-- a text, and the tokens that it says
pub record Source : Type 0 where
  pub text : Text
  pub tokens : List Token

-- A production: whether the tokens from one place up to another are so.
abbrev pub Production : Type 1
Production = Source → ℕ → ℕ → Type 0

-- one production, and the other behind it
infixr 5 ◌▸◌
abbrev pub ◌▸◌ : Production → Production → Production
P ▸ Q = λ s i j. (k : ℕ) × P s i k × Q s k j

-- no tokens
abbrev pub Nothing : Production
Nothing = λ s i j. j ≡ i

-- the token at a place, or the end of the text
abbrev pub token_at : Source → ℕ → Token
token_at s i = unwrap_or (slice_get s.tokens i) (record { kind = End; span = record { start = length s.text; end = length s.text }; docs = None })

-- the text of the token at a place
abbrev pub token_text : Source → ℕ → Text
token_text s i = slice_range s.text (token_at s i).span.start (token_at s i).span.end

-- a token of the kind
abbrev pub IsKind : TokenKind → Production
IsKind kind = λ s i j. ((token_at s i).kind ≡ kind) × (j ≡ i + 1)

-- the token at the place is this word, and has no `%` before it
abbrev pub SaysWord : Source → ℕ → Text → Type 0
SaysWord s i w = ((token_at s i).kind ≡ Word) × (token_text s i ≡ w)

-- a keyword
abbrev pub IsWord : Text → Production
IsWord w = λ s i j. SaysWord s i w × (j ≡ i + 1)

-- whether a text is one of the keywords
abbrev pub is_keyword : Text → Bool
is_keyword w = list_any (λ keyword. bytes_eq keyword w) keywords

-- id ::= label | '%' label
-- A label that is a keyword is none; behind a `%` it is.
abbrev pub IsNameAt : Source → ℕ → Text → Type 0
IsNameAt s i name =
    (SaysWord s i name × (is_keyword name ≡ false)) ⊎ (((token_at s i).kind ≡ Escaped) × (name ≡ drop 1 (token_text s i)))

abbrev pub IsName : Ident → Production
IsName id = λ s i j. IsNameAt s i (string_bytes id.name) × (id.span ≡ (token_at s i).span) × (j ≡ i + 1)

-- the bytes from the first of the tokens to the last
abbrev pub IsSpan : Span → Source → ℕ → ℕ → Type 0
IsSpan span s i j = span ≡ record { start = (token_at s i).span.start; end = (token_at s (j - 1)).span.end }

-- a production, where this holds too
abbrev pub Having : Type 0 → Production → Production
Having fact P = λ s i j. P s i j × fact

-- a production, whose place is this
abbrev pub Spanning : Span → Production → Production
Spanning span P = λ s i j. P s i j × IsSpan span s i j
