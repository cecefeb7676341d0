use Rattle.wac_wit_validation.proofs.LayerFacts.{LayersBelow}
use Rattle.wac_wit_validation.proofs.validator.Validator.layers_of.Given as goal

abbrev pub invariant-loop-item : goal.invariant-loop-item
invariant-loop-item l = LayersBelow l.self l.text l.layers.items l.item-index
