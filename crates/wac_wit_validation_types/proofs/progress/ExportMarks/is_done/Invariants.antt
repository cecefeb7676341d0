use Rattle.std.proofs.Common.{◌≡◌, Bool, true}
use Rattle.wac_wit_validation_types.proofs.MarkFacts.{AllBelow}
use Rattle.wac_wit_validation_types.proofs.progress.ExportMarks.is_done.Given as goal

abbrev pub invariant-loop-seen : goal.invariant-loop-seen
invariant-loop-seen l = AllBelow (λ (b : Bool). b ≡ true) l.seen-items l.seen-index
