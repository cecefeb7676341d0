use Rattle.wac_component.specs.Content.{world_content}
use Rattle.wac_wit_validation_types.specs.Denoted.{uses_in}
use Rattle.wac_wit_validation.specs.WorldChecking.{KeepsUnexported}
use Rattle.wac_wit_validation.proofs.validator.Validator.mark_unexported.Given as goal

abbrev pub invariant-loop-item : goal.invariant-loop-item
invariant-loop-item l = KeepsUnexported l.self l.scope (world_content l.entry) (uses_in l.items) l.initial.marks l.marks
