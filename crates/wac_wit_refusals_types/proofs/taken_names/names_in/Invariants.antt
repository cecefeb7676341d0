use Rattle.wac_wit_refusals_types.specs.NamesTwice.{TakesBareName}
use Rattle.wac_wit_refusals_types.specs.TypeSteps.{AreTaken}
use Rattle.wac_wit_refusals_types.proofs.taken_names.names_in.Given as goal

abbrev pub invariant-loop-index : goal.invariant-loop-index
invariant-loop-index l = AreTaken (TakesBareName l.idents) l.names.items
