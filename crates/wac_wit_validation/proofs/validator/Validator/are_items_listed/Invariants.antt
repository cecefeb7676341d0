use Rattle.wac_wit_syntax.specs.declared.tree.TopItem.{TopItem}
use Rattle.wac_wit_validation.specs.Checking.{Knows}
use Rattle.wac_wit_validation.specs.Listing.{IsItemListed}
use Rattle.wac_wit_scopes.specs.WitSources.{WitSources}
use Rattle.wac_wit_validation_types.proofs.MarkFacts.{AllBelow}
use Rattle.wac_wit_validation.proofs.validator.Validator.are_items_listed.Given as goal

abbrev pub invariant-loop-item : goal.invariant-loop-item
invariant-loop-item l = (of : WitSources) → Knows of l.self → AllBelow (λ (t : TopItem). IsItemListed of l.listed t) l.items l.item-index
