use Rattle.indexmap.specs.IndexMap.{get_by_text}
use Rattle.wac_wit_scopes.specs.WitSources.{ident_text}
use Rattle.wac_wit_validation_names.specs.Ambiguity.{KeepsNoted}
use Rattle.wac_wit_validation_names.specs.GivenNames.{GivesMethod, HoldsWith}
use Rattle.wac_wit_validation_names.proofs.AmbiguityFacts.{EachBelow}
use Rattle.wac_wit_validation_names.proofs.given.give_methods.Given as goal

abbrev pub invariant-loop-index : goal.invariant-loop-index
invariant-loop-index l = record {
  grows : KeepsNoted (get_by_text l.initial.given) (get_by_text l.given);
  gives : HoldsWith l.features (λ of. EachBelow l.methods (GivesMethod of (get_by_text l.given) (ident_text l.resource) l.place) l.index);
}
