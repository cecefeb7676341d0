-- Lists that agree at each index are one, and what is left of a list.
use Rattle.std.proofs.Common.{◌≡◌, ◌≤◌, ℕ, suc, zero, ◌<◌, List, [], ◌∷◌, length, take, drop, Some, slice_get, refl, sym, ap, ◌∙◌, arith}
use Rattle.std.specs.Prelude.{Contains}
use Rattle.std.proofs.lemmas.List.{length-drop, take_all}
use Rattle.wac_checker_parts.proofs.KnownLemmas.{element_at}

pub same_list : {A : Type 0} (xs ys : List A) → length xs ≡ length ys → ((k : ℕ) → k < length xs → slice_get xs k ≡ slice_get ys k) → xs ≡ ys
same_list [] [] l h = refl
same_list [] (y ∷ ys) l h = absurd (omega arith)
same_list (x ∷ xs) [] l h = absurd (omega arith)
same_list (x ∷ xs) (y ∷ ys) l h =
    let first : Some x ≡ Some y = h zero (omega arith) in
    let others : xs ≡ ys = same_list xs ys (omega arith) (λ k b. h (suc k) (omega arith)) in
    cc

-- what stands at a place is among what is left from an earlier one on
pub left_at : {A : Type 0} (xs : List A) (n i : ℕ) (x : A) → n ≤ i → slice_get xs i ≡ Some x → Contains (drop n xs) x
left_at [] zero i x le at = element_at [] i x at
left_at (y ∷ xs) zero i x le at = element_at (y ∷ xs) i x at
left_at [] (suc n) i x le at = absurd (cc (at))
left_at (y ∷ xs) (suc n) zero x le at = absurd (omega (arith, le))
left_at (y ∷ xs) (suc n) (suc i) x le at = left_at xs n i x (omega (arith, le)) at

-- the first items of a list of which nothing is left
pub take_whole : {A : Type 0} (xs : List A) (n k : ℕ) → drop n xs ≡ [] → take (length (take k xs)) (take k xs) ≡ take k (take n xs)
take_whole {A} xs n k none = let short = sym (length-drop n xs) ∙ ap (λ (ys : List A). length ys) none in take_all (length (take k xs)) (take k xs) (omega arith) ∙ ap (take k) (sym (take_all n xs (omega (arith, short))))
