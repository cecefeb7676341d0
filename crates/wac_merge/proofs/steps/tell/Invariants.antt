use Rattle.std.proofs.Common.{◌++◌}
use Rattle.wac_component.specs.Collection.{Collection}
use Rattle.wac_component.specs.Growth.{Extends}
use Rattle.wac_component.specs.Key.{AllStand, item_keys}
use Rattle.wac_component.specs.Sound.{IsSound}
use Rattle.wac_merge.specs.Runs.{IsUnderWay, StepsStand}
use Rattle.wac_merge.proofs.steps.tell.Given as goal

abbrev pub invariant-loop-turn : goal.invariant-loop-turn
invariant-loop-turn l = record {
  way : (c : Collection) → IsSound c → AllStand c (item_keys l.a ++ item_keys l.b) → IsUnderWay c l.initial.types l.initial.memo → IsUnderWay c l.types l.memo × StepsStand c l.steps.items;
  grows : Extends l.initial.types l.types;
}
