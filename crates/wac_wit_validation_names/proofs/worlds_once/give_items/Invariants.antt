use Rattle.indexmap.specs.IndexMap.{get_by_text}
use Rattle.wac_wit_validation_names.specs.Ambiguity.{KeepsNoted}
use Rattle.wac_wit_validation_names.specs.GivenNames.{HoldsWith}
use Rattle.wac_wit_validation_names.specs.WorldOnce.{GivesAt}
use Rattle.wac_wit_validation_names.proofs.AmbiguityFacts.{EachBelow}
use Rattle.wac_wit_validation_names.proofs.worlds_once.give_items.Given as goal

abbrev pub invariant-loop-item : goal.invariant-loop-item
invariant-loop-item l = record {
  grows : KeepsNoted (get_by_text l.initial.given) (get_by_text l.given);
  gives : HoldsWith l.features (λ of. EachBelow l.items (GivesAt of (get_by_text l.given) l.kind l.names l.layer) l.item);
}
