use Rattle.wac_types.specs.HandedIn.{handed_in}
use Rattle.wac_wit_answers.specs.Calls.{AreHandedFrom}
use Rattle.wac_wit_answers.proofs.merging.merged.Given as goal

abbrev pub invariant-loop-index : goal.invariant-loop-index
invariant-loop-index l = AreHandedFrom l.sources (handed_in l.calls.items)
