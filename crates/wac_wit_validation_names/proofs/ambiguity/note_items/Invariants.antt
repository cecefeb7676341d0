use Rattle.indexmap.specs.IndexMap.{get_by_text}
use Rattle.wac_wit_validation_names.specs.Ambiguity.{KeepsNoted, item_identifier}
use Rattle.wac_wit_scopes.specs.WitSources.{package_id}
use Rattle.wac_wit_validation_names.proofs.AmbiguityFacts.{NotesBelow}
use Rattle.wac_wit_validation_names.proofs.ambiguity.note_items.Given as goal

abbrev pub invariant-loop-item : goal.invariant-loop-item
invariant-loop-item l = record {
  grows : KeepsNoted (get_by_text l.initial.noted) (get_by_text l.noted);
  notes : NotesBelow (item_identifier (package_id l.scope.package.now)) l.index l.scope.items.now (get_by_text l.noted) l.item;
}
