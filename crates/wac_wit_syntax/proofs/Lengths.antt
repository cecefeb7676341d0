-- The text of an integer is read as its number.
use Rattle.std.proofs.Common.{◌≡◌, ℕ, ◌^◌, ◌<◌, ◌≤◌, true, false, List, [], ◌∷◌, Err, arith, sym, subst}
use Rattle.std.specs.Char.{is_ascii_digit}
use Rattle.std.specs.List.{list_all}
use Rattle.std.specs.Str.Parse.{AllDigits, IsNumeral, ParsesUnsigned, digits_value, without_leading_plus}
use Rattle.std.specs.declared.num.ParseIntError.{ParseIntError}
use Rattle.std.proofs.lemmas.Bool.Decides.{nat_tests}
use Rattle.std.proofs.lemmas.Str.{digit_value_digit}
use Rattle.std.proofs.lemmas.Str.Parse.{without_leading_plus_none}
use Rattle.wac_wit_syntax.specs.Tokens.{is_integer}
use Rattle.wac_wit_syntax.proofs.Runs.{both}

above : (b : ℕ) → is_ascii_digit b ≡ true → 48 ≤ b
above b h = grind (arith, nat_tests)

below : (b : ℕ) → is_ascii_digit b ≡ true → b ≤ 57
below b h = grind (arith, nat_tests)

all_digits : (w : List ℕ) → list_all is_ascii_digit w ≡ true → AllDigits 10 w
all_digits [] h = tt
all_digits (c ∷ cs) h =
    let k = both (is_ascii_digit c) (list_all is_ascii_digit cs) h in
    let low = above c k.0 in
    let high = below c k.0 in
    (omega (arith, digit_value_digit c (low, high), low, high), all_digits cs k.1)

numeral : (w : List ℕ) → is_integer w ≡ true → IsNumeral 10 (without_leading_plus w)
numeral [] h = absurd (let f : false ≡ true = h in cc)
numeral (b ∷ bs) h =
    let low = above b (both (is_ascii_digit b) (list_all is_ascii_digit bs) h).0 in
    let same : without_leading_plus (b ∷ bs) ≡ b ∷ bs = without_leading_plus_none (b ∷ bs) (λ e. absurd (omega (arith, low, e))) in
    subst (IsNumeral 10) (sym same) (omega arith, all_digits (b ∷ bs) h)

-- an integer that is too large is refused, and no other
pub parses_integer : (e : ParseIntError) (w : List ℕ) → is_integer w ≡ true → ParsesUnsigned 32 10 w (Err e) → digits_value 10 (without_leading_plus w) < 2 ^ 32 → ⊥
parses_integer e w h fails small = fails (numeral w h, small)
