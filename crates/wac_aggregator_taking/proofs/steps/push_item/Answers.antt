use Rattle.std.proofs.Common.{subst}
use Rattle.std.specs.Prelude.{IfSome}
use Rattle.wac_component.specs.Key.{item_keys}
use Rattle.wac_aggregator_taking.specs.Steps.{IsStepOf}
use Rattle.wac_aggregator_taking.proofs.StepLemmas.{ok_then, put_one}
use Rattle.wac_aggregator_taking.proofs.steps.push_item.Goals as goal

pub returns-in-Some : goal.returns-in-Some
returns-in-Some c =
    let ks = item_keys c.args.kind.now in
    let near = c.args.near.now in
    ok_then c.push_step.result c.push_step.ensures (λ put. put_one ks near c.args.steps.now.items c.push_step.new.steps.items c.in-Some.step put (subst (λ o. IfSome o (IsStepOf ks near)) c.in-Some.is c.item_step.ensures))
