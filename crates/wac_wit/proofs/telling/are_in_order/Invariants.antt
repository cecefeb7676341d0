use Rattle.std.specs.List.{AllAdjacentBelow}
use Rattle.wac_wit.specs.Refusals.{IsNoLater}
use Rattle.wac_wit.proofs.telling.are_in_order.Given as goal

abbrev pub invariant-loop-index : goal.invariant-loop-index
invariant-loop-index l = AllAdjacentBelow IsNoLater l.refusals l.index
