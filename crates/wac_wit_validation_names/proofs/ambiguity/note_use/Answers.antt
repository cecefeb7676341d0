use Rattle.std.proofs.Common.{ap, ◌∙◌, Some, sym}
use Rattle.indexmap.specs.IndexMap.{get_by_text}
use Rattle.wac_model.specs.Text.{Text}
use Rattle.wac_wit_validation_names.specs.Ambiguity.{item_use_name}
use Rattle.wac_wit_validation_names.proofs.AmbiguityFacts.{no_use_name, noted_under}
use Rattle.wac_wit_validation_names.proofs.ambiguity.note_use.Goals as goal

pub returns-in-Use-clause-notes : goal.returns-in-Use-clause-notes
returns-in-Use-clause-notes c = noted_under c.note_given.result (get_by_text c.note_given.new.uses) c.args.place _ _ (ap item_use_name c.in-Use.is ∙ ap (λ (k : Text). Some k) (sym c.used_name.ensures)) c.note_given.ensures.notes

pub returns-in_default-clause-notes : goal.returns-in_default-clause-notes
returns-in_default-clause-notes c = λ is k at. no_use_name c.args.item.now k c.in_default.not-Use at
