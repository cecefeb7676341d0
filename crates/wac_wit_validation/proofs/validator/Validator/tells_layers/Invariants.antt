use Rattle.wac_component.specs.Content.{named, use_content}
use Rattle.wac_wit_validation.specs.OriginClauses.{TellsLayer}
use Rattle.wac_wit_validation_types.proofs.MarkFacts.{AllBelow}
use Rattle.wac_wit_validation.proofs.validator.Validator.tells_layers.Given as goal

abbrev pub invariant-loop-layer : goal.invariant-loop-layer
invariant-loop-layer l = AllBelow (TellsLayer l.self (named use_content l.uses.entries)) l.layers l.layer-index
