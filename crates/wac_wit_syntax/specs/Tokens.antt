-- The tokens other than white space (WIT.md, "Operators", "Keywords", "Integers", "Identifiers").
use Rattle.std.specs.Prelude.{◌≡◌, Bool, true, not, ◌&&◌, ◌||◌, ◌==◌, [], ◌∷◌, ◌++◌, slice_index, false, ⊤}
use Rattle.std.specs.Char.{is_ascii_digit}
use Rattle.std.specs.List.{list_all, slice_split}
use Rattle.wac_model.specs.Text.{Text}
use Rattle.wac_wit_syntax.specs.Bytes.{is_dot, is_nonempty, is_version_byte, is_word_byte}
use Rattle.wac_wit_syntax.specs.Names.{is_label}
use Rattle.wac_wit_syntax.specs.declared.token.TokenKind.{TokenKind}
use Rattle.wac_wit_syntax.specs.declared.token.TokenKind.TheVariants.{Word, Escaped, Integer, Version, Underscore, Equals, Comma, Colon, Semicolon, OpenParen, CloseParen, OpenBrace, CloseBrace, OpenAngle, CloseAngle, Star, Arrow, Slash, Dot, At, Invalid, End}

-- integer ::= [0-9]+
abbrev pub is_integer : Text → Bool
is_integer w = is_nonempty w && list_all is_ascii_digit w

-- what stands between two dots of a version: letters, digits, `-` and `+`, at least one
abbrev pub is_identifier : Text → Bool
is_identifier w = is_nonempty w && list_all is_version_byte w

-- A version as it is cut out of a text, whose form is read later: an integer, a dot, a digit, and
-- more such identifiers with dots between them.
abbrev pub IsVersion : Text → Type 0
IsVersion w = (number : Text) × (rest : Text) × (w ≡ number ++ 46 ∷ rest) × (is_integer number ≡ true)
    × (is_ascii_digit (slice_index rest 0) ≡ true) × (list_all is_identifier (slice_split is_dot rest) ≡ true)

-- the text is a token of the kind
abbrev pub IsToken : TokenKind → Text → Type 0
-- operator ::= '=' | ',' | ':' | ';' | '(' | ')' | '{' | '}' | '<' | '>' | '*' | '->' | '/' | '.' | '@'
IsToken Equals w = w ≡ 61 ∷ []
IsToken Comma w = w ≡ 44 ∷ []
IsToken Colon w = w ≡ 58 ∷ []
IsToken Semicolon w = w ≡ 59 ∷ []
IsToken OpenParen w = w ≡ 40 ∷ []
IsToken CloseParen w = w ≡ 41 ∷ []
IsToken OpenBrace w = w ≡ 123 ∷ []
IsToken CloseBrace w = w ≡ 125 ∷ []
IsToken OpenAngle w = w ≡ 60 ∷ []
IsToken CloseAngle w = w ≡ 62 ∷ []
IsToken Star w = w ≡ 42 ∷ []
IsToken Arrow w = w ≡ 45 ∷ 62 ∷ []
IsToken Slash w = w ≡ 47 ∷ []
IsToken Dot w = w ≡ 46 ∷ []
IsToken At w = w ≡ 64 ∷ []
-- `_`, where a result has no type
IsToken Underscore w = w ≡ 95 ∷ []
-- keyword, and id ::= label | '%' label
IsToken Word w = is_label w ≡ true
IsToken Escaped w = (label : Text) × (w ≡ 37 ∷ label) × (is_label label ≡ true)
-- integer, and versions
IsToken Integer w = is_integer w ≡ true
IsToken Version w = IsVersion w
-- what is no token, and the end of the text
IsToken Invalid w = ⊥
IsToken End w = ⊥

-- a name goes on with this text: by a letter, a digit or `_`, or by a `-` that doesn't begin `->`
abbrev pub name_goes_on : Text → Bool
name_goes_on behind = is_word_byte (slice_index behind 0) || (slice_index behind 0 == 45 && not (slice_index behind 1 == 62))

-- a version goes on with this text, by a byte of its identifiers or by a dot and such a byte
abbrev pub version_goes_on : Text → Bool
version_goes_on behind = is_version_byte (slice_index behind 0) || (slice_index behind 0 == 46 && is_version_byte (slice_index behind 1))

-- an integer is more with this text: a word that is none, or a version
abbrev pub integer_goes_on : Text → Bool
integer_goes_on behind = (slice_index behind 0 == 46 && is_ascii_digit (slice_index behind 1)) || is_word_byte (slice_index behind 0)

-- a comment begins with a slash and this text
abbrev pub begins_comment : Text → Bool
begins_comment behind = slice_index behind 0 == 47 || slice_index behind 0 == 42

-- Each token is as long as can be: the text behind it doesn't go on with it. So `a-` and `fooBar` are
-- no names with something behind them, but no tokens; nor is `1a`, nor `_a`.
abbrev pub IsWhole : TokenKind → Text → Type 0
IsWhole Word behind = name_goes_on behind ≡ false
IsWhole Escaped behind = name_goes_on behind ≡ false
IsWhole Underscore behind = is_word_byte (slice_index behind 0) ≡ false
IsWhole Integer behind = integer_goes_on behind ≡ false
IsWhole Version behind = version_goes_on behind ≡ false
IsWhole Slash behind = begins_comment behind ≡ false
IsWhole kind behind = ⊤
