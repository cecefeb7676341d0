use Rattle.wac_wit_refusals_types.specs.NamesTwice.{TakesFieldName}
use Rattle.wac_wit_refusals_types.specs.TypeSteps.{AreTaken}
use Rattle.wac_wit_refusals_types.proofs.taken_names.names_of_fields.Given as goal

abbrev pub invariant-loop-index : goal.invariant-loop-index
invariant-loop-index l = AreTaken (TakesFieldName l.fields) l.names.items
