use Rattle.std.proofs.Common.{◌≡◌, Some, subst}
use Rattle.std.proofs.lemmas.Result.{IfOk-weaker}
use Rattle.indexmap.specs.IndexMap.{get_by_text}
use Rattle.wac_model.specs.Text.{Text}
use Rattle.wac_wit_validation_names.proofs.ambiguity.note_given.Goals as goal

pub returns-clause-notes : goal.returns-clause-notes
returns-clause-notes c = IfOk-weaker c.note.result _ _ (λ b h is. subst (λ (k : Text). get_by_text c.note.new.noted k ≡ Some c.args.place) c.in_ok-key.ensures.cases (h is)) c.note.ensures.notes
