use Rattle.std.proofs.Common.{map}
use Rattle.std.specs.Map.Iter.{deref_pair}
use Rattle.wac_core.specs.Content.{core_tree}
use Rattle.wac_component.specs.Content.{named}
use Rattle.wac_aggregator_errors.specs.Clashes.{AreCoresApart}
use Rattle.wac_aggregator_errors.specs.Found.{HasNone}
use Rattle.wac_aggregator_errors.proofs.modules.first_core_clash.Given as goal

abbrev pub invariant-loop-name : goal.invariant-loop-name
invariant-loop-name l = HasNone AreCoresApart (named core_tree (map deref_pair l.yielded)) (named core_tree l.second.entries)
