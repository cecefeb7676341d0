use Rattle.std.proofs.Common.{[], ◌∷◌}
use Rattle.std.proofs.lemmas.List.Elements.{All-cons, All-head, All-nil}
use Rattle.wac_component.specs.Key.{item_keys}
use Rattle.wac_aggregator_taking.specs.Steps.{MayStep, IsStepDue}
use Rattle.wac_aggregator_taking.specs.Takes.{near_keys}
use Rattle.wac_aggregator_taking.proofs.StepLemmas.{due_steps, first_due, no_steps_due, step_goes_on, way_first}
use Rattle.wac_aggregator_taking.proofs.steps.take_first.Goals as goal

pub take_step-requires-clause-step : goal.take_step-requires-clause-step
take_step-requires-clause-step c =
    let f = c.args.types.now in
    let near = c.args.near.now in
    let ks = item_keys c.args.kind.now in
    let a = c.args.state.now in
    let due = first_due f near ks a c.requires.state c.in-Some.step c.requires.near c.in-Some.ensures in
    All-head (MayStep f a) c.in-Some.step [] (due_steps f near ks a c.requires.state c.sound.ensures c.requires.source a (c.in-Some.step ∷ []) (way_first f near ks a c.requires.state)
    (All-cons (IsStepDue f (near_keys near) ks a a) c.in-Some.step [] due (All-nil (IsStepDue f (near_keys near) ks a a))))

pub returns-in-Some : goal.returns-in-Some
returns-in-Some c =
    let f = c.args.types.now in
    let near = c.args.near.now in
    let ks = item_keys c.args.kind.now in
    let a = c.args.state.now in
    step_goes_on f (near_keys near) ks c.sound.ensures c.requires.source a a c.take_step.new.state c.requires.state (way_first f near ks a c.requires.state) c.in-Some.step
    (first_due f near ks a c.requires.state c.in-Some.step c.requires.near c.in-Some.ensures) c.take_step.result c.args.steps.now.items c.take_step.new.steps.items
    (no_steps_due f near ks a c.requires.state a c.args.steps.now.items c.requires.no_steps) c.take_step.ensures.taken c.take_step.ensures.members c.take_step.ensures.steps

pub returns-in-None : goal.returns-in-None
returns-in-None c =
    let f = c.args.types.now in
    let ks = item_keys c.args.kind.now in
    let a = c.args.state.now in
    (way_first f c.args.near.now ks a c.requires.state, no_steps_due f c.args.near.now ks a c.requires.state a c.args.steps.now.items c.requires.no_steps)
