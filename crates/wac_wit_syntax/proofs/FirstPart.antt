-- The part with which a text begins, by recursion on the text.
use Rattle.std.proofs.Common.{ℕ, ◌+◌, ◌==◌, ◌&&◌, ◌||◌, Option, Some, None, if◌then◌else◌, drop, take, slice_index, option_map}
use Rattle.std.specs.Char.{is_ascii_alphabetic, is_ascii_digit}
use Rattle.wac_model.specs.Text.{Text}
use Rattle.wac_wit_syntax.specs.Bytes.{is_space, is_word_byte}
use Rattle.wac_wit_syntax.specs.Names.{is_label}
use Rattle.wac_wit_syntax.specs.Parts.{PartSort, token, white}
use Rattle.wac_wit_syntax.specs.Reading.{closing_length, kind_of, run_length}
use Rattle.wac_wit_syntax.specs.declared.scanning.Run.TheVariants as run
use Rattle.wac_wit_syntax.specs.declared.token.TokenKind.{TokenKind}
use Rattle.wac_wit_syntax.specs.declared.token.TokenKind.TheVariants.{Arrow, Escaped, Integer, Slash, Underscore, Version, Word}

-- a sort of part, and how many bytes it takes
abbrev pub Found : Type 0
Found = Option (PartSort × ℕ)

-- a name with so many bytes before it
abbrev pub name_part : TokenKind → ℕ → Text → Found
name_part kind before text =
    if is_label (take (run_length run.Name text) text) then Some (token kind, before + run_length run.Name text) else None

-- a number, or a version
abbrev pub number_part : ℕ → Text → Found
number_part n text =
    if slice_index text n == 46 && is_ascii_digit (slice_index text (n + 1)) then Some (token Version, n + run_length run.Version (drop n text))
    else (if is_word_byte (slice_index text n) then None else Some (token Integer, n))

-- the kind that a byte is, if no other piece begins with it
abbrev pub kind_by : ℕ → Option TokenKind
kind_by b = if b == 95 then Some Underscore else (if b == 47 then Some Slash else kind_of b)

-- the part with which a text begins, whose first two bytes are these
abbrev pub part_by : ℕ → ℕ → Text → Found
part_by b c text =
    if is_space b then Some (white, 1)
    else (if b == 47 && c == 47 then Some (white, run_length run.Line text)
    else (if b == 47 && c == 42 then option_map (λ n. (white, 2 + n)) (closing_length 1 (drop 2 text))
    else (if b == 45 && c == 62 then Some (token Arrow, 2)
    else (if b == 37 then name_part Escaped 1 (drop 1 text)
    else (if is_ascii_digit b then number_part (run_length run.Digits text) text
    else (if is_ascii_alphabetic b || (b == 95 && is_word_byte c) then name_part Word 0 text
    else option_map (λ kind. (token kind, 1)) (kind_by b)))))))

-- the part with which a text begins
abbrev pub first_part : Text → Found
first_part text = part_by (slice_index text 0) (slice_index text 1) text
