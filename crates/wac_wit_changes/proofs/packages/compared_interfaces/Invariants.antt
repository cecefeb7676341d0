use Rattle.std.proofs.Common.{map}
use Rattle.std.specs.List.{AllZip}
use Rattle.std.specs.Map.Iter.{deref_pair}
use Rattle.wac_wit_changes.specs.Comparing.{IsComparedInterface}
use Rattle.wac_wit_changes.proofs.packages.compared_interfaces.Given as goal

abbrev pub invariant-loop-name : goal.invariant-loop-name
invariant-loop-name l = AllZip (IsComparedInterface l.pair.types.now l.new) (map deref_pair l.yielded) l.items.items
