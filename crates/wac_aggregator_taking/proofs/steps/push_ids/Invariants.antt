use Rattle.std.proofs.Common.{map}
use Rattle.wac_component.specs.Naming.{key_of}
use Rattle.wac_aggregator_taking.specs.Steps.{ArePut}
use Rattle.wac_aggregator_taking.proofs.steps.push_ids.Given as goal

abbrev pub invariant-loop-i : goal.invariant-loop-i
invariant-loop-i l = ArePut (map key_of l.ids) l.near l.initial.steps.items l.steps.items
