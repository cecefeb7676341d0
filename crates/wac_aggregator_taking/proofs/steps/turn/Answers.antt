use Rattle.std.proofs.Common.{Ok, Err}
use Rattle.std.proofs.lemmas.List.Elements.{All-pop}
use Rattle.wac_component.specs.Key.{item_keys}
use Rattle.wac_aggregator_errors.specs.declared.error.AggregateError.TheVariants.{Memory}
use Rattle.wac_aggregator_errors.proofs.Passing.{passed_on}
use Rattle.wac_aggregator_taking.specs.Steps.{MayStep, IsStepDue}
use Rattle.wac_aggregator_taking.specs.Takes.{near_keys}
use Rattle.wac_aggregator_taking.proofs.StepLemmas.{asked_due, memory_refused, step_goes_on, step_popped}
use Rattle.wac_aggregator_taking.proofs.steps.turn.Goals as goal

pub take_step-requires-clause-step : goal.take_step-requires-clause-step
take_step-requires-clause-step c = (step_popped (MayStep c.args.types.now c.args.state.now) c.args.steps.now.items c.pop.new.self.items c.pop.result c.in-Some.step c.pop.ensures.items c.in-Some.is c.requires.steps).1

pub returns-in-Ok-clause-goes_on : goal.returns-in-Ok-clause-goes_on
returns-in-Ok-clause-goes_on c = λ a may sound stand way due.
    let f = c.args.types.now in
    let near = near_keys c.args.near.now in
    let ks = item_keys c.args.kind.now in
    let p = step_popped (IsStepDue f near ks a c.args.state.now) c.args.steps.now.items c.pop.new.self.items c.pop.result c.in-Some.step c.pop.ensures.items c.in-Some.is due in
    step_goes_on f near ks sound stand a c.args.state.now c.take_step.new.state may way c.in-Some.step p.1 (Ok tt) c.pop.new.self.items c.take_step.new.steps.items p.0 c.in-Ok.ensures.taken c.in-Ok.ensures.members c.in-Ok.ensures.steps

pub returns-in-Err-clause-goes_on : goal.returns-in-Err-clause-goes_on
returns-in-Err-clause-goes_on c = λ a may sound stand way due.
    let f = c.args.types.now in
    let near = near_keys c.args.near.now in
    let ks = item_keys c.args.kind.now in
    let p = step_popped (IsStepDue f near ks a c.args.state.now) c.args.steps.now.items c.pop.new.self.items c.pop.result c.in-Some.step c.pop.ensures.items c.in-Some.is due in
    step_goes_on f near ks sound stand a c.args.state.now c.take_step.new.state may way c.in-Some.step p.1 (Err c.in-Err.refusal) c.pop.new.self.items c.take_step.new.steps.items p.0 c.in-Err.ensures.taken c.in-Err.ensures.members tt

pub returns-in_err-done-in-None-clause-goes_on : goal.returns-in_err-done-in-None-clause-goes_on
returns-in_err-done-in-None-clause-goes_on c = λ a may sound stand way due. passed_on c.from_residual.result _ _ Memory c.from_residual.ensures (memory_refused c.args.types.now (near_keys c.args.near.now) (item_keys c.args.kind.now) a)

pub returns-in_ok-done-in-None-clause-goes_on : goal.returns-in_ok-done-in-None-clause-goes_on
returns-in_ok-done-in-None-clause-goes_on c = λ a may sound stand way due.
    let f = c.args.types.now in
    let near = near_keys c.args.near.now in
    let ks = item_keys c.args.kind.now in
    let b = c.args.state.now in
    let others = (All-pop (IsStepDue f near ks a b) c.args.steps.now.items c.pop.new.self.items c.pop.result c.pop.ensures.items due).0 in
    (way, asked_due f c.args.near.now ks a may b c.pop.new.self.items c.ask.new.steps.items c.requires.near way c.in_ok-done-in-None.ensures.steps others)
