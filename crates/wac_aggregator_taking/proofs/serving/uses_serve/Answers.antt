use Rattle.std.proofs.Common.{sym, ◌∙◌}
use Rattle.wac_component.specs.Content.{named, use_content}
use Rattle.wac_aggregator_uses.specs.Uses.{UsesAgree}
use Rattle.wac_aggregator_taking.proofs.ServingLemmas.{when_ok}
use Rattle.wac_aggregator_taking.proofs.serving.uses_serve.Goals as goal

pub returns-then-has_names-clause-agree : goal.returns-then-has_names-clause-agree
returns-then-has_names-clause-agree c = λ said.
    when_ok c.check_uses.result (UsesAgree c.args.types.now (named use_content c.args.existing.now.entries) (named use_content c.args.new.now.entries)) _ c.check_uses.ensures (sym c.is_ok.ensures.value ∙ said)
