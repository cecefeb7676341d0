-- What the lexer's steps answer, by recursion on the text. The grammar is told apart from this
-- (`Parts`, `Tokens`, `Comments`); that the two agree is proved.
use Rattle.std.specs.Prelude.{◌≡◌, ◌⊎◌, ℕ, ◌+◌, ◌-◌, ◌==◌, Bool, true, false, not, ◌&&◌, ◌||◌, [], ◌∷◌, ◌++◌, Option, Some, None, if◌then◌else◌, drop, length, take, slice_index, option_map, suc, ◌<◌, ◌≤◌}
use Rattle.std.specs.Char.{is_ascii, is_ascii_alphabetic, is_ascii_digit}
use Rattle.std.specs.List.{AllByRecursion}
use Rattle.wac_model.specs.Text.{Text}
use Rattle.wac_wit_syntax.specs.Bytes.{is_space, is_version_byte, is_word_byte}
use Rattle.wac_wit_syntax.specs.Comments.{is_docs}
use Rattle.wac_wit_syntax.specs.Parts.{HasNoPart, IsOfSort, token, white}
use Rattle.wac_wit_syntax.specs.declared.lexer.Piece.{Piece}
use Rattle.wac_wit_syntax.specs.declared.lexer.Piece.TheVariants.{Space, Comment, Docs, Token, Refused}
use Rattle.wac_wit_syntax.specs.declared.scanning.Run.{Run}
use Rattle.wac_wit_syntax.specs.declared.scanning.Run.TheVariants.{Line, Digits, Name, Foreign}
use Rattle.wac_wit_syntax.specs.declared.scanning.Run.TheVariants as run
use Rattle.wac_wit_syntax.specs.declared.token.TokenKind.{TokenKind}
use Rattle.wac_wit_syntax.specs.declared.token.TokenKind.TheVariants.{Equals, Comma, Colon, Semicolon, OpenParen, CloseParen, OpenBrace, CloseBrace, OpenAngle, CloseAngle, Star, Dot, At}

-- whether a byte goes on with a run, where this one follows it
abbrev pub goes_on : Run → ℕ → ℕ → Bool
goes_on Line b next = not (b == 10)
goes_on run.Space b next = is_space b
goes_on Digits b next = is_ascii_digit b
goes_on Name b next = is_word_byte b || (b == 45 && not (next == 62))
goes_on run.Version b next = is_version_byte b || (b == 46 && is_version_byte next)
goes_on Foreign b next = not (is_ascii b)

-- how many bytes of the text are a run
abbrev pub run_length : Run → Text → ℕ
run_length r [] = 0
run_length r (b ∷ bs) = if goes_on r b (slice_index bs 0) then suc (run_length r bs) else 0

-- how many bytes of the text close so many comments
abbrev pub closing_length : ℕ → Text → Option ℕ
closing_length depth [] = None
closing_length depth (b ∷ []) = None
closing_length depth (b ∷ c ∷ bs) =
    if b == 47 && c == 42 then option_map (λ n. n + 2) (closing_length (depth + 1) bs)
    else (if b == 42 && c == 47 then (if depth == 1 then Some 2 else option_map (λ n. n + 2) (closing_length (depth - 1) bs))
    else option_map (λ n. n + 1) (closing_length depth (c ∷ bs)))

-- the kind that a byte is, whatever follows it
abbrev pub kind_of : ℕ → Option TokenKind
kind_of b =
    if b == 61 then Some Equals else (if b == 44 then Some Comma else (if b == 58 then Some Colon else (if b == 59 then Some Semicolon
    else (if b == 40 then Some OpenParen else (if b == 41 then Some CloseParen else (if b == 123 then Some OpenBrace else (if b == 125 then Some CloseBrace
    else (if b == 60 then Some OpenAngle else (if b == 62 then Some CloseAngle else (if b == 42 then Some Star else (if b == 46 then Some Dot
    else (if b == 64 then Some At else None))))))))))))

-- a word begins with the first of two bytes: a letter, or `_` before a byte of words
abbrev pub BeginsWord : ℕ → ℕ → Type 0
BeginsWord b next = (is_ascii_alphabetic b ≡ true) ⊎ ((b ≡ 95) × (is_word_byte next ≡ true))

-- where a piece ends
abbrev pub end_of : Piece → ℕ
end_of (Space end) = end
end_of (Comment end) = end
end_of (Docs end) = end
end_of (Token kind end) = end
end_of (Refused kind end) = end

-- what a piece says of the text that it takes, where this text stands behind it: spaces, a comment,
-- a token; or that no part of a text begins there
abbrev pub Says : Piece → Text → Text → Type 0
Says (Space end) w behind = AllByRecursion (λ b. is_space b ≡ true) w
Says (Comment end) w behind = IsOfSort white w behind × (is_docs w ≡ false)
Says (Docs end) w behind = IsOfSort white w behind × (is_docs w ≡ true)
Says (Token kind end) w behind = IsOfSort (token kind) w behind
Says (Refused kind end) w behind = HasNoPart (w ++ behind)

-- the piece at a place of a text: it takes a byte at least, and the text has it
pub record IsPieceAt (text : Text) (at : ℕ) (piece : Piece) : Type 0 where
  pub begins : at < end_of piece
  pub within : end_of piece ≤ length text
  pub says : Says piece (take (end_of piece - at) (drop at text)) (drop (end_of piece) text)
