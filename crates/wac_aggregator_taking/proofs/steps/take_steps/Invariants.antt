use Rattle.std.proofs.Common.{All}
use Rattle.wac_component.specs.Key.{item_keys}
use Rattle.wac_aggregator_taking.specs.Steps.{AreUnderWay, IsStepDue}
use Rattle.wac_aggregator_taking.specs.Takes.{near_keys}
use Rattle.wac_aggregator_taking.proofs.steps.take_steps.Given as goal

abbrev pub invariant-loop-turn : goal.invariant-loop-turn
invariant-loop-turn l = record {
  way : AreUnderWay l.types (near_keys l.near) (item_keys l.kind) l.fn.state l.state;
  due : All (IsStepDue l.types (near_keys l.near) (item_keys l.kind) l.fn.state l.state) l.steps.items;
}
