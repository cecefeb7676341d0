use Rattle.wac_component.specs.Content.{named}
use Rattle.wac_wit_validation_types.specs.Denoted.{uses_in}
use Rattle.wac_wit_validation.specs.WorldChecking.{KeepsUses}
use Rattle.wac_wit_validation.proofs.validator.Validator.mark_uses.Given as goal

abbrev pub invariant-loop-item : goal.invariant-loop-item
invariant-loop-item l = KeepsUses l.self l.scope (uses_in l.items) (named (λ k. k) l.imports.entries) l.initial.marks l.marks
