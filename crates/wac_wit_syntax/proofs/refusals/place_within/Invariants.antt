-- The places so far lie in the text.
use Rattle.std.proofs.Common.{◌≡◌, ◌<◌, ℕ, length, slice_index_or}
use Rattle.wac_wit_syntax.specs.Faults.{IsPlaceIn}
use Rattle.wac_wit_syntax.specs.declared.error.Refusal.{Refusal}
use Rattle.wac_wit_syntax.proofs.refusals.place_within.Given as goal

abbrev pub invariant-loop-index : goal.invariant-loop-index
invariant-loop-index l = record {
  placed : (k : ℕ) (r : Refusal) → k < l.index → IsPlaceIn l.text (slice_index_or l.found.items k r).span;
  same : length l.found.items ≡ l.index-end;
}
