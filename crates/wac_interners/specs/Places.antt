-- Interners that number texts: the key of a text tells its place.
use Rattle.std.specs.Prelude.{◌≡◌, ◌+◌, ℕ, Bool, false, ◌==◌, List, Option, Some, None, String, position, string_bytes}
use Rattle.std.specs.declared.alloc.Global.{Global}
use Rattle.std.specs.Str.{bytes_eq}
use Rattle.wac_model.specs.Text.{Text}

-- the first place of a text
abbrev pub text_place : List (String Global) → Text → Option ℕ
text_place texts text = position (λ s. bytes_eq text (string_bytes s)) texts

-- whether the place is this one
abbrev pub is_place : Option ℕ → ℕ → Bool
is_place None key = false
is_place (Some place) key = place == key

-- whether counting down from 1000 comes to this key at the place
abbrev pub counts_down_to : Option ℕ → ℕ → Bool
counts_down_to None key = false
counts_down_to (Some place) key = place + key == 1000

-- a place is kept, and none is new but that of the text
pub record AddsAt (old new : List (String Global)) (text : Text) : Type 0 where
  pub kept : (other : Text) (place : ℕ) → text_place old other ≡ Some place → text_place new other ≡ Some place
  pub only_here : (other : Text) → (other ≡ text → ⊥) → text_place new other ≡ text_place old other
