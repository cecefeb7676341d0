use Rattle.std.specs.Borrow.{Bor}
use Rattle.wac_wit_syntax.specs.declared.tree.WorldItem.{WorldItem}
use Rattle.wac_wit_validation.specs.OriginClauses.{TellsWorldItemAt}
use Rattle.wac_wit_validation_types.proofs.MarkFacts.{AllBelow}
use Rattle.wac_wit_validation.proofs.validator.Validator.tells_world_items.Given as goal

abbrev pub invariant-loop-item : goal.invariant-loop-item
invariant-loop-item l = AllBelow (λ (b : Bor WorldItem). TellsWorldItemAt l.self l.scope l.noted b.now) l.items l.item-index
