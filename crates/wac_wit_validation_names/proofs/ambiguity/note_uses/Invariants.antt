use Rattle.indexmap.specs.IndexMap.{get_by_text}
use Rattle.wac_wit_validation_names.specs.Ambiguity.{item_use_name}
use Rattle.wac_wit_validation_names.proofs.AmbiguityFacts.{NotesBelow}
use Rattle.wac_wit_validation_names.proofs.ambiguity.note_uses.Given as goal

abbrev pub invariant-loop-item : goal.invariant-loop-item
invariant-loop-item l = NotesBelow item_use_name l.index l.items (get_by_text l.uses) l.item
