use Rattle.std.proofs.Common.{◌∷◌, []}
use Rattle.wac_component.specs.Content.{world_content}
use Rattle.wac_wit_validation_types.specs.Denoted.{uses_in}
use Rattle.wac_wit_validation.specs.WorldChecking.{UsesAreThere}
use Rattle.wac_wit_validation_types.proofs.MarkFacts.{AllBelow}
use Rattle.wac_wit_syntax.specs.declared.tree.InterfaceItem.{InterfaceItem}
use Rattle.wac_wit_validation.proofs.validator.Validator.are_there.Given as goal

abbrev pub invariant-loop-item : goal.invariant-loop-item
invariant-loop-item l = AllBelow (λ (x : InterfaceItem). UsesAreThere l.self l.scope (world_content l.entry) (uses_in (x ∷ [])) l.marks) l.items l.item-index
