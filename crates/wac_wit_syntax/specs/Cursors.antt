-- What is read between two states of a cursor.
use Rattle.std.specs.Prelude.{◌≡◌, ◌⊎◌, ◌+◌, ◌<◌, ⊤, slice_range, string_bytes, vec_len}
use Rattle.wac_model.specs.Text.{Text}
use Rattle.wac_wit_syntax.specs.Productions.{◌▸◌, IsKind, IsWord, Production, SaysWord, Source}
use Rattle.wac_wit_syntax.specs.declared.cursor.Cursor.{Cursor}
use Rattle.wac_wit_syntax.specs.declared.token.Token.{Token}
use Rattle.wac_wit_syntax.specs.declared.token.TokenKind.{TokenKind}
use Rattle.wac_wit_syntax.specs.declared.token.TokenKind.TheVariants.{End, Escaped, Integer, Version, Word}

-- what is read
abbrev pub source : Cursor → Source
source c = record { text = string_bytes c.text; tokens = c.tokens.items }

-- nothing is refused so far
abbrev pub HasNoRefusal : Cursor → Type 0
HasNoRefusal c = vec_len c.refusals.found ≡ 0

-- If nothing is refused up to the later state, nothing was before, the same is read, and the tokens
-- between the two are so.
pub record Reads (c d : Cursor) (P : Production) : Type 0 where
  pub quiet : HasNoRefusal d → HasNoRefusal c
  pub same : HasNoRefusal d → source d ≡ source c
  pub read : HasNoRefusal d → P (source c) c.next d.next

-- a token of the kind is taken; the end of the text isn't asked for
abbrev pub ReadsKind : TokenKind → Cursor → Cursor → Type 0
ReadsKind End c d = ⊤
ReadsKind kind c d = Reads c d (IsKind kind)

-- the text of a token of this kind is the name, but for its `%`
abbrev pub SpellsName : Text → Token → Text → Type 0
SpellsName text token name =
    ((token.kind ≡ Word) × (name ≡ slice_range text token.span.start token.span.end))
    ⊎ ((token.kind ≡ Escaped) × (token.span.start < token.span.end) × (name ≡ slice_range text (token.span.start + 1) token.span.end))

-- the token may be a version, and this is its text
abbrev pub SpellsVersion : Text → Token → Text → Type 0
SpellsVersion text token version =
    ((token.kind ≡ Version) ⊎ (token.kind ≡ Integer)) × (version ≡ slice_range text token.span.start token.span.end)

-- the next token is taken, and what is read behind it is so: where it is a word, it is read too
abbrev pub ReadsBehind : Cursor → Cursor → Production → Type 0
ReadsBehind c d P = (w : Text) → SaysWord (source c) c.next w → Reads c d (IsWord w ▸ P)
