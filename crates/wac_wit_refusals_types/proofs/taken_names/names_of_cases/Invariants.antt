use Rattle.wac_wit_refusals_types.specs.NamesTwice.{TakesCaseName}
use Rattle.wac_wit_refusals_types.specs.TypeSteps.{AreTaken}
use Rattle.wac_wit_refusals_types.proofs.taken_names.names_of_cases.Given as goal

abbrev pub invariant-loop-index : goal.invariant-loop-index
invariant-loop-index l = AreTaken (TakesCaseName l.cases) l.names.items
