use Rattle.std.proofs.Common.{◌-◌, map}
use Rattle.wac_component.specs.Naming.{key_of}
use Rattle.wac_component.specs.Sound.{entry_count}
use Rattle.wac_aggregator_alike.proofs.Noting.{Walked}
use Rattle.wac_aggregator_alike.proofs.walk.made_of.Given as goal

abbrev pub invariant-loop-next : goal.invariant-loop-next
invariant-loop-next l = Walked l.types (key_of l.fn.id) l.next (map key_of l.reached.keys)

abbrev pub decreases-loop-next : goal.decreases-loop-next
decreases-loop-next l = entry_count l.types - l.next
