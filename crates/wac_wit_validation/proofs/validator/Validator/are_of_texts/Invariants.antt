use Rattle.wac_wit_scopes.specs.WitSources.{WitSources}
use Rattle.wac_wit_validation.specs.Checking.{Knows}
use Rattle.wac_wit_validation.specs.Listing.{IsOfText}
use Rattle.wac_wit_validation_types.proofs.MarkFacts.{AllBelow}
use Rattle.wac_wit_validation.proofs.validator.Validator.are_of_texts.Given as goal

abbrev pub invariant-loop-index : goal.invariant-loop-index
invariant-loop-index l = (of : WitSources) → Knows of l.self → AllBelow (IsOfText of) l.listed l.index
