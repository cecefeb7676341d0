use Rattle.std.proofs.Common.{ap, sym, subst, ◌∙◌}
use Rattle.wac_component.specs.Content.{named, use_content}
use Rattle.wac_component.specs.Key.{AllStand, named_keys, use_keys}
use Rattle.wac_aggregator_uses.specs.Uses.{UsesAgree}
use Rattle.wac_aggregator_taking.specs.Serving.{AreUsesKept}
use Rattle.wac_aggregator_taking.proofs.GrowLemmas.{uses_put}
use Rattle.wac_aggregator_taking.proofs.serving.own_uses_serve.Goals as goal

pub uses_serve-requires-clause-new : goal.uses_serve-requires-clause-new
uses_serve-requires-clause-new c = subst (λ us. AllStand c.args.state.now.types (named_keys use_keys us)) (sym c.in-Ok.ensures) c.requires.new

pub returns-in-Ok-clause-kept : goal.returns-in-Ok-clause-kept
returns-in-Ok-clause-kept c = λ said.
    subst (AreUsesKept (named use_content c.args.existing.now.entries)) c.in-Ok.ensures
    (ap (named use_content) (sym (c.uses_serve.ensures.kept said)) ∙ uses_put c.args.existing.now.entries c.in-Ok.new.entries)

pub returns-in-Ok-clause-agree : goal.returns-in-Ok-clause-agree
returns-in-Ok-clause-agree c = λ said. subst (UsesAgree c.args.state.now.types (named use_content c.args.existing.now.entries)) c.in-Ok.ensures (c.uses_serve.ensures.agree said)
