-- Lines and columns.
use Rattle.std.specs.Prelude.{◌≡◌, ◌≢◌, ◌⊎◌, ℕ, ◌+◌, ◌==◌, [], ◌∷◌, ◌++◌, count_by, length, take}
use Rattle.std.specs.List.{AllByRecursion}
use Rattle.wac_model.specs.Text.{Text}
use Rattle.wac_wit_syntax.specs.declared.positions.Position.{Position}

-- the text is nothing but whole lines, each with its line feed
abbrev pub IsLines : Text → Type 0
IsLines text = (text ≡ []) ⊎ ((front : Text) × (text ≡ front ++ 10 ∷ []))

-- where a text ends, if it is the beginning of another: on this line, before this column, each from 1.
-- It is whole lines and the beginning of a line.
pub record EndsAt (text : Text) (line column : ℕ) : Type 0 where
  pub lines : Text
  pub front : Text
  pub text_is : text ≡ lines ++ front
  pub whole : IsLines lines
  pub unended : AllByRecursion (λ b. b ≢ 10) front
  pub line_is : line ≡ count_by (λ b. b == 10) lines + 1
  pub column_is : column ≡ length front + 1

-- the line and the column of the byte at an offset; past the end they are those of the end
abbrev pub IsPosition : Text → ℕ → Position → Type 0
IsPosition text offset position = EndsAt (take offset text) position.line position.column
