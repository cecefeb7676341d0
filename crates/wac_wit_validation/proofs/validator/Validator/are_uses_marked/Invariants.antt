use Rattle.std.proofs.Common.{◌∷◌, []}
use Rattle.wac_wit_validation_types.specs.Denoted.{uses_in}
use Rattle.wac_wit_validation.specs.WorldChecking.{MarksUses}
use Rattle.wac_wit_validation_types.proofs.MarkFacts.{AllBelow}
use Rattle.wac_wit_syntax.specs.declared.tree.InterfaceItem.{InterfaceItem}
use Rattle.wac_wit_validation.proofs.validator.Validator.are_uses_marked.Given as goal

abbrev pub invariant-loop-item : goal.invariant-loop-item
invariant-loop-item l = AllBelow (λ (x : InterfaceItem). MarksUses l.self l.scope (uses_in (x ∷ [])) l.marks) l.items l.item-index
