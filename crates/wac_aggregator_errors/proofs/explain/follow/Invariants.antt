use Rattle.std.proofs.Common.{◌++◌}
use Rattle.wac_component.specs.Growth.{Extends}
use Rattle.wac_component.specs.Key.{AllStand, item_keys}
use Rattle.wac_merge.specs.Known.{KnowsMeets}
use Rattle.wac_aggregator_errors.specs.Found.{IsWayTo}
use Rattle.wac_aggregator_errors.proofs.explain.follow.Given as goal

abbrev pub invariant-loop-turn : goal.invariant-loop-turn
invariant-loop-turn l = record {
  way : IsWayTo l.initial.own (l.initial.at.existing, l.initial.at.new) l.initial.frames.items l.own (l.at.existing, l.at.new) l.frames.items;
  known : KnowsMeets l.initial.own l.own l.meets;
  stood : AllStand l.initial.own (item_keys l.at.existing ++ item_keys l.at.new);
  grows : Extends l.initial.own l.own;
}
