use Rattle.wac_aggregator.specs.HandedIn.{handed_in}
use Rattle.wac_script_session.proofs.Handed.{AreAsked-calls}
use Rattle.wac_script_session.proofs.aggregates.HandedCalls.of.Goals as goal

pub invariant_of-result : goal.invariant_of-result
invariant_of-result c = record {
  asked = AreAsked-calls c.args.collections.now c.in-Some.number (handed_in c.in_ok-calls.calls.items) c.in-Some.ensures c.in_ok-calls.ensures;
}
