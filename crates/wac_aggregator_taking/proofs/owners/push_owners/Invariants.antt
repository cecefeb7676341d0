use Rattle.std.proofs.Common.{None, map}
use Rattle.wac_component.specs.Key.{resource_key}
use Rattle.wac_aggregator_taking.specs.Steps.{ArePut}
use Rattle.wac_aggregator_taking.proofs.owners.push_owners.Given as goal

abbrev pub invariant-loop-i : goal.invariant-loop-i
invariant-loop-i l = ArePut (map resource_key l.resources.items) None l.initial.steps.items l.steps.items
