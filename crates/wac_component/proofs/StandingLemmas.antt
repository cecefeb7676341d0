-- Ids stand together where those of each member do.
use Rattle.std.proofs.Common.{◌≡◌, ◌<◌, ◌≤◌, ◌↔◌, ℕ, suc, zero, List, [], ◌∷◌, ◌++◌, Some, Bool, true, false, length, slice_get, refl, sym, ◌∙◌, arith}
use Rattle.std.specs.List.{flat_map}
use Rattle.wac_component.specs.Key.{Key, Each}
use Rattle.wac_component.proofs.Keys.{Each-append, Each-left, Each-right}

-- a no is right where a fact that follows is answered by no
pub refused : {P Q : Type 0} (b : Bool) → ((b ≡ true) ↔ P) → b ≡ false → (Q → P) → (false ≡ true) ↔ Q
refused b is e f = (λ h. absurd (cc), λ q. sym e ∙ is.1 (f q))

pub Each-members : {V : Type 0} (P : Key → Type 0) (f : V → List Key) (vs : List V) (n : ℕ) → length vs ≤ n → ((k : ℕ) (v : V) → k < n → slice_get vs k ≡ Some v → Each P (f v)) → Each P (flat_map f vs)
Each-members P f [] n h g = tt
Each-members P f (v ∷ vs) zero h g = absurd (omega arith)
Each-members P f (v ∷ vs) (suc n) h g = Each-append P (f v) (flat_map f vs) (g 0 v (omega arith) refl) (Each-members P f vs n (omega arith) (λ k w l e. g (suc k) w (omega arith) e))

-- of two lists, of which the first stands
pub then_second : (P : Key → Type 0) (xs ys : List Key) (a b : Bool) → ((a ≡ true) ↔ Each P xs) → a ≡ true → ((b ≡ true) ↔ Each P ys) → (b ≡ true) ↔ Each P (xs ++ ys)
then_second P xs ys a b first e second = (λ h. Each-append P xs ys (first.0 e) (second.0 h), λ h. second.1 (Each-right P xs ys h))

-- of two lists, of which the first doesn't stand
pub else_neither : (P : Key → Type 0) (xs ys : List Key) (a : Bool) → ((a ≡ true) ↔ Each P xs) → a ≡ false → (a ≡ true) ↔ Each P (xs ++ ys)
else_neither P xs ys a first e = (λ h. absurd (cc), λ h. first.1 (Each-left P xs ys h))
