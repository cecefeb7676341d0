use Rattle.wac_wit.specs.Read.{KeepsKnowing}
use Rattle.wac_wit.proofs.packages.are_added.Given as goal

abbrev pub invariant-loop-index : goal.invariant-loop-index
invariant-loop-index l = KeepsKnowing l.initial.validator l.validator
