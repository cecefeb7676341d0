use Rattle.wac_wit_validation.specs.WorldChecking.{StaysAs}
use Rattle.wac_wit_validation.proofs.validator.Validator.add_exported.Given as goal

abbrev pub invariant-loop-index : goal.invariant-loop-index
invariant-loop-index l = StaysAs l.initial.self l.self
