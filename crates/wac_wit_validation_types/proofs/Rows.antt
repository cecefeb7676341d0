-- Two lists side by side, as far as a loop over both has come.
use Rattle.std.proofs.Common.{◌≡◌, ℕ, ◌+◌, ◌≤◌, List, [], ◌∷◌, ◌++◌, Some, length, take, sym, ◌∙◌, ap, subst, arith}
use Rattle.std.specs.List.{AllZip, slice_get}
use Rattle.std.proofs.lemmas.List.{take_more, take_all}
use Rattle.std.proofs.lemmas.Option.{slice_get_within, get_or_from_slice_get}
use Rattle.std.proofs.lemmas.Slice.Zip.{all_zipped_more}

take-next : {A : Type 0} (xs : List A) (i : ℕ) (x : A) → slice_get xs i ≡ Some x → take (i + 1) xs ≡ take i xs ++ x ∷ []
take-next xs i x h = take_more xs i x (slice_get_within xs i x h) ∙ ap (λ y. take i xs ++ y ∷ []) (get_or_from_slice_get xs i x x h)

module _ {A B : Type 0} (R : A → B → Type 0) (xs : List A) (ys : List B) (i : ℕ) where
  pub AllZip-next : (x : A) (y : B) → AllZip R (take i xs) (take i ys) → slice_get xs i ≡ Some x → slice_get ys i ≡ Some y → R x y → AllZip R (take (i + 1) xs) (take (i + 1) ys)
  AllZip-next x y all h k is =
      subst (λ l. AllZip R l (take (i + 1) ys)) (sym (take-next xs i x h)) (subst (λ l. AllZip R (take i xs ++ x ∷ []) l) (sym (take-next ys i y k)) (all_zipped_more R (take i xs) (take i ys) x y all is))

  pub AllZip-all : AllZip R (take i xs) (take i ys) → length xs ≤ i → length xs ≡ length ys → AllZip R xs ys
  AllZip-all all h same = subst (λ l. AllZip R l ys) (take_all i xs h) (subst (λ l. AllZip R (take i xs) l) (take_all i ys (omega arith)) all)
