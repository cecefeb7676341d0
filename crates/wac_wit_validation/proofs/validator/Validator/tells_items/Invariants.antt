use Rattle.wac_wit_validation.specs.OriginClauses.{TellsItemAt}
use Rattle.wac_wit_validation_types.proofs.MarkFacts.{AllBelow}
use Rattle.wac_wit_validation.proofs.validator.Validator.tells_items.Given as goal

abbrev pub invariant-loop-item : goal.invariant-loop-item
invariant-loop-item l = AllBelow (TellsItemAt l.self l.scope l.noted) l.items l.item-index
