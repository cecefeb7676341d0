use Rattle.wac_merge.specs.Runs.{IsUnderWay, StepsStand}
use Rattle.wac_merge.proofs.steps.take_steps.Given as goal

abbrev pub invariant-loop-turn : goal.invariant-loop-turn
invariant-loop-turn l = record { way : IsUnderWay l.initial.types l.types l.memo; stand : StepsStand l.initial.types l.steps.items }
