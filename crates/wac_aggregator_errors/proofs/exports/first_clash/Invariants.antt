use Rattle.std.proofs.Common.{◌++◌, map}
use Rattle.std.specs.Map.Iter.{deref_pair}
use Rattle.wac_component.specs.Content.{named}
use Rattle.wac_component.specs.Growth.{Extends}
use Rattle.wac_merge.specs.Items.{extern_keys, extern_list}
use Rattle.wac_aggregator_errors.specs.Found.{HasNone, AreItemsApart, GoesOnKnown}
use Rattle.wac_aggregator_errors.proofs.exports.first_clash.Given as goal

abbrev pub invariant-loop-name : goal.invariant-loop-name
invariant-loop-name l = record {
  grows : Extends l.initial.own l.own;
  known : GoesOnKnown (extern_keys (extern_list l.first) ++ extern_keys (extern_list l.second)) l.initial.own l.initial.meets l.own l.meets;
  none : HasNone (AreItemsApart l.initial.own) (named (λ k. k) (map deref_pair l.yielded)) (extern_list l.second);
}
