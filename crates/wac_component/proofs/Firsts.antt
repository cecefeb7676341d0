-- Lists whose first elements were made others.
use Rattle.std.proofs.Common.{◌≡◌, ◌≤◌, ◌+◌, ℕ, zero, suc, List, [], ◌∷◌, Some, map, length, slice_get, slice_set, refl, ap, sym, arith, add-one}

abbrev pub with_firsts : {A : Type 0} → ℕ → (A → A) → List A → List A
with_firsts zero h xs = xs
with_firsts (suc i) h [] = []
with_firsts (suc i) h (x ∷ xs) = h x ∷ with_firsts i h xs

module _ {A : Type 0} (h : A → A) where
  pub firsts_at : (i : ℕ) (xs : List A) → slice_get (with_firsts i h xs) i ≡ slice_get xs i
  firsts_at zero xs = refl
  firsts_at (suc i) [] = refl
  firsts_at (suc i) (x ∷ xs) = firsts_at i xs

  pub firsts_length : (i : ℕ) (xs : List A) → length (with_firsts i h xs) ≡ length xs
  firsts_length zero xs = refl
  firsts_length (suc i) [] = refl
  firsts_length (suc i) (x ∷ xs) = ap suc (firsts_length i xs)

  firsts_suc : (i : ℕ) (xs : List A) (x : A) → slice_get xs i ≡ Some x → slice_set (with_firsts i h xs) i (h x) ≡ with_firsts (suc i) h xs
  firsts_suc i [] x at = absurd (cc)
  firsts_suc zero (y ∷ xs) x at = let same : y ≡ x = cc in ap (λ z. h z ∷ xs) (sym same)
  firsts_suc (suc i) (y ∷ xs) x at = ap (λ zs. h y ∷ zs) (firsts_suc i xs x at)

  pub firsts_next : (i : ℕ) (xs : List A) (x : A) → slice_get xs i ≡ Some x → slice_set (with_firsts i h xs) i (h x) ≡ with_firsts (i + 1) h xs
  firsts_next i xs x at = rw add-one (firsts_suc i xs x at)

  pub firsts_all : (i : ℕ) (xs : List A) → length xs ≤ i → with_firsts i h xs ≡ map h xs
  firsts_all zero [] l = refl
  firsts_all zero (x ∷ xs) l = absurd (omega arith)
  firsts_all (suc i) [] l = refl
  firsts_all (suc i) (x ∷ xs) l = ap (λ zs. h x ∷ zs) (firsts_all i xs (omega arith))
