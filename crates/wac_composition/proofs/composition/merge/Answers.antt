use Rattle.wac_types.specs.HandedIn.{handed_in}
use Rattle.wac_composition.proofs.Handing.{AreCallsOf-aggregated}
use Rattle.wac_composition.proofs.composition.merge.Goals as goal

pub aggregate_all-requires-clause-one : goal.aggregate_all-requires-clause-one
aggregate_all-requires-clause-one c =
    rw c.deref.ensures.value (AreCallsOf-aggregated c.args.graph.now (handed_in c.in_ok-calls.calls.items) c.in_ok-calls.ensures).one

pub aggregate_all-requires-clause-apart : goal.aggregate_all-requires-clause-apart
aggregate_all-requires-clause-apart c =
    rw c.deref.ensures.value (AreCallsOf-aggregated c.args.graph.now (handed_in c.in_ok-calls.calls.items) c.in_ok-calls.ensures).apart

pub push_other_orders-requires : goal.push_other_orders-requires
push_other_orders-requires c =
    rw c.deref-2.ensures.value (AreCallsOf-aggregated c.args.graph.now (handed_in c.in_ok-calls.calls.items) c.in_ok-calls.ensures)
