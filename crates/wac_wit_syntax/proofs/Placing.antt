-- One place after another is moved into the text.
use Rattle.std.proofs.Common.{◌≡◌, ◌≢◌, ◌⊎◌, inl, inr, ◌<◌, ◌+◌, ℕ, List, length, slice_index_or, slice_set, sym, subst, ⊎_elim, arith}
use Rattle.std.proofs.lemmas.Bool.Decides.{leb_tells}
use Rattle.std.proofs.lemmas.List.{get_or-set_same, get_or-set_other}
use Rattle.wac_model.specs.Text.{Text}
use Rattle.wac_wit_syntax.specs.Faults.{IsPlaceIn}
use Rattle.wac_wit_syntax.specs.declared.error.Refusal.{Refusal}

below_or_at : (k n : ℕ) → k < n + 1 → (k < n) ⊎ (k ≡ n)
below_or_at k n h = ⊎_elim (λ t. inr (omega (arith, h, t.1))) (λ t. inl t.1) (leb_tells n k)

pub one_placed : (text : Text) (rs : List Refusal) (n : ℕ) (r : Refusal) → n < length rs → IsPlaceIn text r.span → ((k : ℕ) (d : Refusal) → k < n → IsPlaceIn text (slice_index_or rs k d).span)
    → (k : ℕ) (d : Refusal) → k < n + 1 → IsPlaceIn text (slice_index_or (slice_set rs n r) k d).span
one_placed text rs n r within placed before k d h = by_place (below_or_at k n h)
  where
    by_place : (k < n) ⊎ (k ≡ n) → IsPlaceIn text (slice_index_or (slice_set rs n r) k d).span
    by_place (inl below) = let other : k ≢ n = omega (arith, below) in subst (λ (x : Refusal). IsPlaceIn text x.span) (sym (get_or-set_other rs n k r d other)) (before k d below)
    by_place (inr same) = subst (λ m. IsPlaceIn text (slice_index_or (slice_set rs n r) m d).span) (sym same) (subst (λ (x : Refusal). IsPlaceIn text x.span) (sym (get_or-set_same rs n r d within)) placed)
