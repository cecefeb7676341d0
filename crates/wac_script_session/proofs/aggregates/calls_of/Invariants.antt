use Rattle.wac_aggregator.specs.HandedIn.{handed_in}
use Rattle.wac_script_session.specs.Calls.{AreCallsIn}
use Rattle.wac_script_session.proofs.aggregates.calls_of.Given as goal

abbrev pub invariant-loop-call : goal.invariant-loop-call
invariant-loop-call l = AreCallsIn l.collections (handed_in l.found.items)
