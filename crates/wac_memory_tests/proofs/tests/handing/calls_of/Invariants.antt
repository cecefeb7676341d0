use Rattle.wac_types.specs.HandedIn.{handed_in}
use Rattle.wac_memory_tests.specs.Calls.{AreCallsOf}
use Rattle.wac_memory_tests.proofs.tests.handing.calls_of.Given as goal

abbrev pub invariant-loop-one : goal.invariant-loop-one
invariant-loop-one l = AreCallsOf l.first l.second (handed_in l.calls.items)
