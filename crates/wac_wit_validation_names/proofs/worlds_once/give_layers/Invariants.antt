use Rattle.indexmap.specs.IndexMap.{get_by_text}
use Rattle.wac_wit_validation_names.specs.GivenNames.{HoldsWith}
use Rattle.wac_wit_validation_names.specs.WorldOnce.{GivesLayer}
use Rattle.wac_wit_validation_names.proofs.AmbiguityFacts.{EachBelow}
use Rattle.wac_wit_validation_names.proofs.worlds_once.give_layers.Given as goal

abbrev pub invariant-loop-index : goal.invariant-loop-index
invariant-loop-index l = HoldsWith l.features (λ of. EachBelow l.layers (GivesLayer of (get_by_text l.given) l.kind) l.index)
