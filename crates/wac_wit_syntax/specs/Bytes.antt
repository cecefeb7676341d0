-- The bytes that the grammar speaks of.
use Rattle.std.specs.Prelude.{ℕ, Bool, true, false, ◌||◌, ◌==◌, List, [], ◌∷◌}
use Rattle.std.specs.Char.{is_ascii_alphanumeric, is_ascii_digit}
use Rattle.std.specs.Int.{is_in_range}

-- a space, a tab, a carriage return or a line feed
abbrev pub is_space : ℕ → Bool
is_space b = b == 32 || b == 9 || b == 13 || b == 10

-- a letter in lower case, or a digit
abbrev pub is_lower_or_digit : ℕ → Bool
is_lower_or_digit b = is_in_range 97 122 b || is_ascii_digit b

-- a letter in upper case, or a digit
abbrev pub is_upper_or_digit : ℕ → Bool
is_upper_or_digit b = is_in_range 65 90 b || is_ascii_digit b

-- a letter, a digit or `_`
abbrev pub is_word_byte : ℕ → Bool
is_word_byte b = is_ascii_alphanumeric b || b == 95

-- a letter, a digit, `-` or `+`
abbrev pub is_version_byte : ℕ → Bool
is_version_byte b = is_ascii_alphanumeric b || (b == 45 || b == 43)

-- `-` and `.`
abbrev pub is_dash : ℕ → Bool
is_dash b = b == 45

abbrev pub is_dot : ℕ → Bool
is_dot b = b == 46

-- there is a byte at least
abbrev pub is_nonempty : List ℕ → Bool
is_nonempty [] = false
is_nonempty (b ∷ bs) = true
