use Rattle.wac_wit_validation_types.proofs.NewNameFacts.{AreRenamedFrom}
use Rattle.wac_wit_validation_types.proofs.new_names.NewNames.of_include.Given as goal

abbrev pub invariant-loop-index : goal.invariant-loop-index
invariant-loop-index l = AreRenamedFrom l.renames l.names l.index
