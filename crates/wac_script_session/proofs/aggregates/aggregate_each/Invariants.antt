use Rattle.std.proofs.Common.{◌≡◌, Contains}
use Rattle.wac_aggregator_promises.specs.Call.{Call}
use Rattle.wac_names.specs.Class.{class_of}
use Rattle.wac_aggregator_narrowing.specs.Remembers.{RemembersTruly}
use Rattle.wac_aggregator.specs.Content.{state_in}
use Rattle.wac_aggregator.specs.HandedIn.{handed_in}
use Rattle.wac_script_session.proofs.aggregates.aggregate_each.Given as goal

abbrev pub invariant-loop-at : goal.invariant-loop-at
invariant-loop-at l = record {
  number : l.aggregator.types.number ≡ l.number;
  truly : (c : Call) → Contains (handed_in l.calls) c → RemembersTruly class_of c.types (state_in l.aggregator);
}
