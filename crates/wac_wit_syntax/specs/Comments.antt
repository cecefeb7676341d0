-- Comments (WIT.md, "Comments").
use Rattle.std.specs.Prelude.{◌≡◌, ◌≢◌, ◌⊎◌, ℕ, Bool, not, ◌&&◌, ◌||◌, ◌==◌, [], ◌∷◌, ◌++◌, slice_index, ⊤}
use Rattle.std.specs.List.{AllByRecursion}
use Rattle.wac_model.specs.Text.{Text}

-- the text is empty, or a line ends with its first byte
abbrev pub EndsLine : Text → Type 0
EndsLine [] = ⊤
EndsLine (b ∷ bs) = b ≡ 10

-- comment ::= '//' character-that-isnt-a-newline*
-- It goes on to the end of the line, or of the text.
abbrev pub IsLineComment : Text → Text → Type 0
IsLineComment w behind = (line : Text) × (w ≡ 47 ∷ 47 ∷ line) × AllByRecursion (λ b. b ≢ 10) line × EndsLine behind

-- What a comment has behind its `/*`: its end `*/`, or a byte with which neither `/*` nor `*/`
-- begins and the rest, or a comment in it and the rest.
pub data Inside : Type 0 where
  close : Inside
  other : ℕ → Inside → Inside
  nested : Inside → Inside → Inside

-- the text of it
abbrev pub inside_text : Inside → Text
inside_text close = 42 ∷ 47 ∷ []
inside_text (other b rest) = b ∷ inside_text rest
inside_text (nested comment rest) = 47 ∷ 42 ∷ (inside_text comment ++ inside_text rest)

-- `/*` or `*/` begins the text
abbrev pub BeginsDelimiter : Text → Type 0
BeginsDelimiter text = ((slice_index text 0 ≡ 47) × (slice_index text 1 ≡ 42)) ⊎ ((slice_index text 0 ≡ 42) × (slice_index text 1 ≡ 47))

-- no byte that is taken for another one begins a delimiter, so that these are balanced
abbrev pub IsBalanced : Inside → Type 0
IsBalanced close = ⊤
IsBalanced (other b rest) = (BeginsDelimiter (b ∷ inside_text rest) → ⊥) × IsBalanced rest
IsBalanced (nested comment rest) = IsBalanced comment × IsBalanced rest

-- comment ::= '/*' any-unicode-character* '*/', where comments nest and their delimiters are balanced
abbrev pub IsBlockComment : Text → Type 0
IsBlockComment w = (inside : Inside) × IsBalanced inside × (w ≡ 47 ∷ 42 ∷ inside_text inside)

-- documentation: a comment that begins with exactly three slashes, or with `/*` and exactly one star
-- more, but for `/**/`
abbrev pub is_docs : Text → Bool
is_docs w = (slice_index w 1 == 47 && (slice_index w 2 == 47 && not (slice_index w 3 == 47)))
    || (slice_index w 1 == 42 && (slice_index w 2 == 42 && (not (slice_index w 3 == 42) && not (slice_index w 3 == 47))))
