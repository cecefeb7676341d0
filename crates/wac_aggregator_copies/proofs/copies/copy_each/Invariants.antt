use Rattle.std.proofs.Common.{map, take}
use Rattle.wac_component.specs.Naming.{key_of}
use Rattle.wac_aggregator_copies.specs.Copies.{HasCopies}
use Rattle.wac_aggregator_copies.proofs.copies.copy_each.Given as goal

abbrev pub invariant-loop-i : goal.invariant-loop-i
invariant-loop-i l = HasCopies l.types l.initial.own l.initial.copies l.own l.copies (take l.i (map key_of l.order.keys))
