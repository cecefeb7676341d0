use Rattle.wac_wit_validation.specs.WorldChecking.{StaysAs}
use Rattle.wac_wit_validation.proofs.validator.Validator.note_items.Given as goal

abbrev pub invariant-loop-item : goal.invariant-loop-item
invariant-loop-item l = StaysAs l.initial.self l.self
