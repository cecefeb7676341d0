use Rattle.wac_types.specs.HandedIn.{handed_in}
use Rattle.wac_composition.specs.Calls.{AreCallsOf}
use Rattle.wac_composition.proofs.merging.push_remaining.Given as goal

abbrev pub invariant-loop-name : goal.invariant-loop-name
invariant-loop-name l = AreCallsOf l.graph (handed_in l.calls.items)
