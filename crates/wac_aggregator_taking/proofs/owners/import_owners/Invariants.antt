use Rattle.std.proofs.Common.{map}
use Rattle.wac_component.specs.Key.{resource_key}
use Rattle.wac_aggregator_taking.specs.Steps.{ImportsOnly}
use Rattle.wac_aggregator_taking.specs.Takes.{Takes}
use Rattle.wac_aggregator_taking.proofs.Alike.{AreFirstTaken}
use Rattle.wac_aggregator_taking.proofs.owners.import_owners.Given as goal

abbrev pub invariant-loop-i : goal.invariant-loop-i
invariant-loop-i l = record {
  takes : Takes l.types l.initial.state l.state 0 (map resource_key l.resources.items) (AreFirstTaken l.types l.i l.resources.items);
  others : ImportsOnly l.initial.state l.state;
}
