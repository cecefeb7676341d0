use Rattle.indexmap.specs.IndexMap.{get_by_text}
use Rattle.wac_wit_validation_names.specs.Ambiguity.{KeepsNoted}
use Rattle.wac_wit_validation_names.specs.GivenNames.{GivesRename}
use Rattle.wac_wit_validation_types.specs.Reading.{name_by}
use Rattle.wac_wit_validation_names.proofs.AmbiguityFacts.{EachBelow}
use Rattle.wac_wit_validation_names.proofs.given.give_renames.Given as goal

abbrev pub invariant-loop-index : goal.invariant-loop-index
invariant-loop-index l = record {
  grows : KeepsNoted (get_by_text l.initial.given) (get_by_text l.given);
  gives : EachBelow l.renames (GivesRename (get_by_text l.given) (name_by l.names) l.place) l.index;
}
