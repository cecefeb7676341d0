use Rattle.std.proofs.Common.{All, map}
use Rattle.std.specs.Map.Iter.{deref_pair}
use Rattle.wac_wit_changes.proofs.Names.{HasName}
use Rattle.wac_wit_changes.proofs.checking.has_each.Given as goal

abbrev pub invariant-loop-name : goal.invariant-loop-name
invariant-loop-name l = All (HasName l.items.entries) (map deref_pair l.yielded)
