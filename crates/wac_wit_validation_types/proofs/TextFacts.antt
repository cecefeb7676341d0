-- Texts that are put together.
use Rattle.std.proofs.Common.{◌≡◌, [], ◌∷◌, ◌++◌, true, false, not, Bool, IsTrue, ◌+◌, refl, ap}
use Rattle.wac_model.specs.Text.{Text}

pub not_and_is : (b : Bool) → IsTrue (not b) → b ≡ true → ⊥
not_and_is true h is = absurd (cc)
not_and_is false h is = absurd (cc)

append_two : (a b c : Text) → (a ++ b) ++ c ≡ a ++ (b ++ c)
append_two [] b c = refl
append_two (x ∷ a) b c = ap (λ (l : Text). x ∷ l) (append_two a b c)

pub append_three : (a b c d : Text) → ((a ++ b) ++ c) ++ d ≡ a ++ (b ++ (c ++ d))
append_three [] b c d = append_two b c d
append_three (x ∷ a) b c d = ap (λ (l : Text). x ∷ l) (append_three a b c d)
