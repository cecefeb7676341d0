-- What is answered where the tokens are what a function reads: the other direction of `Cursors`.
use Rattle.std.specs.Prelude.{◌≡◌, ◌≢◌, ◌⊎◌, ℕ, ◌+◌, ◌<◌, Bool, true, Result, IfErr, OnOk, slice_range}
use Rattle.std.specs.Str.{IsCharBoundary}
use Rattle.wac_model.specs.Text.{Text}
use Rattle.wac_wit_syntax.specs.Cursors.{source}
use Rattle.wac_wit_syntax.specs.Faults.{IsPlaceIn}
use Rattle.wac_wit_syntax.specs.Lists.{Separated}
use Rattle.wac_wit_syntax.specs.Productions.{◌▸◌, IsKind, Production, SaysWord, Source, token_at}
use Rattle.wac_wit_syntax.specs.Tokens.{is_integer}
use Rattle.wac_wit_syntax.specs.declared.types.TheConstants.{MAX_DEPTH}
use Rattle.wac_wit_syntax.specs.declared.cursor.Cursor.{Cursor}
use Rattle.wac_wit_syntax.specs.declared.error.Fault.{Fault}
use Rattle.wac_wit_syntax.specs.declared.error.Fault.TheVariants.{Memory}
use Rattle.wac_wit_syntax.specs.declared.token.Token.{Token}
use Rattle.wac_wit_syntax.specs.declared.token.TokenKind.{TokenKind}
use Rattle.wac_wit_syntax.specs.declared.token.TokenKind.TheVariants.{At, CloseAngle, CloseBrace, CloseParen, Comma, Escaped, Integer, OpenAngle, Word}

-- the text of a token can be cut out of the whole, and that of a name behind its `%` too; that of an
-- integer is digits
pub record IsCutOut (text : Text) (token : Token) : Type 0 where
  pub whole : IsPlaceIn text token.span
  pub escaped : token.kind ≡ Escaped → (token.span.start < token.span.end) × IsCharBoundary text (token.span.start + 1)
  pub digits : token.kind ≡ Integer → is_integer (slice_range text token.span.start token.span.end) ≡ true

abbrev pub AreCutOut : Source → Type 0
AreCutOut s = (i : ℕ) → IsCutOut s.text (token_at s i)

-- so many angles that open between some earlier place and this one aren't closed
pub data AreOpen (s : Source) : ℕ → ℕ → Type 0 where
  none : {i : ℕ} → AreOpen s i 0
  opened : {i n : ℕ} → (token_at s i).kind ≡ OpenAngle → AreOpen s i n → AreOpen s (i + 1) (n + 1)
  closed : {i n : ℕ} → (token_at s i).kind ≡ CloseAngle → AreOpen s i (n + 1) → AreOpen s (i + 1) n
  other : {i n : ℕ} → (token_at s i).kind ≢ OpenAngle → (token_at s i).kind ≢ CloseAngle → AreOpen s i n → AreOpen s (i + 1) n

-- fewer are open anywhere than types may nest
abbrev pub IsShallow : Source → Type 0
IsShallow s = (i n : ℕ) → AreOpen s i n → n < MAX_DEPTH

-- what completeness asks of the tokens
pub record IsReadable (s : Source) : Type 0 where
  pub cut_out : AreCutOut s
  pub shallow : IsShallow s

-- some tree is so
abbrev pub AnyOf : {X : Type 0} → (X → Production) → Production
AnyOf {X} P = λ s i j. (x : X) × P x s i j

-- a production that no token of the kind stands behind
abbrev pub NotBefore : TokenKind → Production → Production
NotBefore kind P = λ s i j. P s i j × ((token_at s j).kind ≢ kind)

-- one that a token of the kind stands behind
abbrev pub Before : TokenKind → Production → Production
Before kind P = λ s i j. P s i j × ((token_at s j).kind ≡ kind)

-- one that this word doesn't stand behind
abbrev pub NotBeforeWord : Text → Production → Production
NotBeforeWord word P = λ s i j. P s i j × (SaysWord s j word → ⊥)

-- the answer is a value, and the cursor comes to the place with nothing else changed; or memory runs out
pub record ComesTo {T : Type 0} (j : ℕ) (c d : Cursor) (r : Result T Fault) : Type 0 where
  pub ok : OnOk r (d ≡ record c { next = j })
  pub memory : IfErr r (λ fault. fault ≡ Memory)

-- that holds at each place up to which the tokens are so
pub record Completes {T : Type 0} (c d : Cursor) (r : Result T Fault) (P : Production) : Type 0 where
  pub ends : IsReadable (source c) → (j : ℕ) → P (source c) c.next j → ComesTo j c d r

-- the same of a test that takes the tokens
abbrev pub Eats : Cursor → Cursor → Bool → Production → Type 0
Eats c d eaten P = IsReadable (source c) → (j : ℕ) → P (source c) c.next j → (eaten ≡ true) × (d ≡ record c { next = j })

-- ---- lists and blocks

-- what closes a list; behind a member of it stands a comma or that
abbrev pub IsCloser : TokenKind → Type 0
IsCloser kind = (kind ≡ CloseParen) ⊎ (kind ≡ CloseBrace)

abbrev pub IsListEnd : TokenKind → Type 0
IsListEnd kind = (kind ≡ Comma) ⊎ IsCloser kind

abbrev pub BeforeEnd : Production → Production
BeforeEnd P = λ s i j. P s i j × IsListEnd (token_at s j).kind

-- a token is taken, and the first is the beginning of a name or of an attribute
abbrev pub Begins : Source → ℕ → ℕ → Type 0
Begins s i j = (i < j) × (((token_at s i).kind ≡ Word) ⊎ (((token_at s i).kind ≡ Escaped) ⊎ ((token_at s i).kind ≡ At)))

abbrev pub AllBegin : {X : Type 0} → (X → Production) → Type 0
AllBegin {X} P = (x : X) (s : Source) (i j : ℕ) → P x s i j → Begins s i j

-- members between what opens a list and what closes it
abbrev pub IsListOf : {X : Type 0} → TokenKind → (X → Production) → TokenKind → Production
IsListOf opener P close = IsKind opener ▸ AnyOf (Separated P) ▸ IsKind close
