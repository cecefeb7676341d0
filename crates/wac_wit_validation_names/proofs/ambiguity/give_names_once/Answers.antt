use Rattle.std.proofs.lemmas.Result.{IfOk-weaker}
use Rattle.indexmap.specs.IndexMap.{get_by_text}
use Rattle.wac_wit_validation_names.proofs.ambiguity.give_names_once.Goals as goal

pub returns : goal.returns
returns c = IfOk-weaker c.have_free_uses.result _ _ (λ b h is. record {
  noted = get_by_text c.note_scopes.new.noted;
  notes = c.in_ok-note_scopes.ensures c.if-not-branch.false;
  uses = h is;
}) c.have_free_uses.ensures
