use Rattle.std.proofs.lemmas.Result.{IfOk-weaker}
use Rattle.indexmap.specs.IndexMap.{get_by_text}
use Rattle.wac_wit_validation_names.proofs.AmbiguityFacts.{uses_once}
use Rattle.wac_wit_validation_names.proofs.ambiguity.has_free_uses.Goals as goal

pub returns : goal.returns
returns c = IfOk-weaker c.are_free.result _ _ (λ b h is. record {
  once = uses_once (get_by_text c.note_uses.new.uses) c.args.index c.args.scope.now.items.now (c.in_ok-note_uses.ensures c.if-not-branch.false);
  free = h is;
}) c.are_free.ensures
