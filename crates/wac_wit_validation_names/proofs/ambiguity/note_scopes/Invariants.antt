use Rattle.indexmap.specs.IndexMap.{get_by_text}
use Rattle.wac_wit_validation_names.proofs.AmbiguityFacts.{EachBelow, NotesScope}
use Rattle.wac_wit_validation_names.proofs.ambiguity.note_scopes.Given as goal

abbrev pub invariant-loop-index : goal.invariant-loop-index
invariant-loop-index l = EachBelow l.scopes (NotesScope (get_by_text l.noted)) l.index
