-- Lists that grow.
use Rattle.std.proofs.Common.{◌≡◌, arith, inl, inr, List, [], ◌∷◌, ◌++◌, Contains, subst}
use Rattle.std.proofs.lemmas.List.Elements.{Contains-push_cases}

module _ {A : Type 0} (P : A → Type 0) where
  -- what holds of each element, and of one more
  pub each_pushed : (xs ys : List A) (x : A) → ys ≡ xs ++ x ∷ [] → ((y : A) → Contains xs y → P y) → P x → (y : A) → Contains ys y → P y
  each_pushed xs ys x is old new y among = elim (Contains-push_cases xs x y (subst (λ zs. Contains zs y) is among)) [ inl h ↦ old y h | inr e ↦ subst P e new ]

  pub each_none : (xs : List A) → xs ≡ [] → (y : A) → Contains xs y → P y
  each_none xs none y among = let nothing : Contains [] y = subst (λ zs. Contains zs y) none among in absurd (omega (arith, nothing.1))
