use Rattle.std.proofs.Common.{◌≢◌}
use Rattle.wac_wit_validation.specs.declared.marks.ExternMark.TheVariants.{Unmarked}
use Rattle.wac_wit_validation_types.proofs.MarkFacts.{AllBelow}
use Rattle.wac_wit_validation.specs.declared.marks.ExternMark.{ExternMark}
use Rattle.std.specs.Prelude.{◌≢◌}
use Rattle.wac_wit_validation.proofs.marks.ExternMarks.are_all.Given as goal

abbrev pub invariant-loop-mark : goal.invariant-loop-mark
invariant-loop-mark l = AllBelow (λ (m : ExternMark). m ≢ Unmarked) l.mark-items l.mark-index
