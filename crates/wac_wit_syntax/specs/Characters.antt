-- The characters that can't stand in a text, not even in a comment (WIT.md, "Lexical structure").
use Rattle.std.specs.Prelude.{ℕ, Bool, true, not, ◌&&◌, ◌||◌, ◌==◌, List, [], ◌∷◌, slice_index}
use Rattle.std.specs.Char.{is_control}
use Rattle.std.specs.Int.{is_in_range}

-- a carriage return with no line feed behind it, where these characters follow
abbrev pub is_lone_return : ℕ → List ℕ → Bool
is_lone_return c behind = c == 13 && not (slice_index behind 0 == 10)

-- a tab, a line feed or a carriage return
abbrev pub is_white_control : ℕ → Bool
is_white_control c = c == 9 || c == 10 || c == 13

-- one that changes the direction in which text is shown: U+202A to U+202E, U+2066 to U+2069
abbrev pub turns_text : ℕ → Bool
turns_text c = is_in_range 0x202a 0x202e c || is_in_range 0x2066 0x2069 c

-- one that is deprecated in Unicode
abbrev pub is_deprecated : ℕ → Bool
is_deprecated c = (c == 0x149 || c == 0x673 || c == 0xf77 || c == 0xf79) || (c == 0x17a3 || c == 0x17a4 || c == 0x17b4 || c == 0x17b5)

-- one that is refused wherever it stands, white space aside
abbrev pub is_refused : ℕ → Bool
is_refused c = turns_text c || is_deprecated c || is_control c

-- one that is refused where it stands before these characters
abbrev pub is_refused_before : ℕ → List ℕ → Bool
is_refused_before c behind = is_lone_return c behind || (not (is_white_control c) && is_refused c)

-- none of the characters is refused
abbrev pub none_refused : List ℕ → Bool
none_refused [] = true
none_refused (c ∷ cs) = not (is_refused_before c cs) && none_refused cs
