use Rattle.wac_wit_validation_types.specs.Reading.{IsComposed}
use Rattle.wac_wit_validation_types.proofs.new_names.NewNames.then.Given as goal

abbrev pub invariant-loop-name : goal.invariant-loop-name
invariant-loop-name l = IsComposed l.self l.by l.names
