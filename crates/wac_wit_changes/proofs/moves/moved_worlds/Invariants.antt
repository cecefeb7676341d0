use Rattle.wac_component.specs.Growth.{Extends}
use Rattle.wac_wit_changes.proofs.moves.moved_worlds.Given as goal

abbrev pub invariant-loop-name : goal.invariant-loop-name
invariant-loop-name l = Extends l.fn.types l.types
