use Rattle.wac_component.specs.Key.{item_keys}
use Rattle.wac_aggregator_taking.specs.Takes.{near_keys}
use Rattle.wac_aggregator_taking.proofs.Alike.{IsNear-Takes}
use Rattle.wac_aggregator_taking.proofs.StepLemmas.{due_steps, memory_refused}
use Rattle.wac_aggregator_taking.proofs.TakeLemmas.{MayTake-Takes}
use Rattle.wac_aggregator_taking.proofs.steps.take_steps.Goals as goal

pub loop-turn-init : goal.loop-turn-init
loop-turn-init c = record { way = c.in-Ok.ensures.0; due = c.in-Ok.ensures.1 }

pub turn-requires-clause-state : goal.turn-requires-clause-state
turn-requires-clause-state c = MayTake-Takes c.args.types.now c.args.state.now c.loop-turn.state _ _ _ c.requires.state c.loop-turn.invariant.way.takes

pub turn-requires-clause-near : goal.turn-requires-clause-near
turn-requires-clause-near c = IsNear-Takes c.args.types.now c.args.state.now c.loop-turn.state _ _ _ c.args.near.now c.requires.state c.loop-turn.invariant.way.takes c.requires.near

pub turn-requires-clause-steps : goal.turn-requires-clause-steps
turn-requires-clause-steps c = due_steps c.args.types.now c.args.near.now (item_keys c.args.kind.now) c.args.state.now c.requires.state c.sound.ensures c.requires.source c.loop-turn.state c.loop-turn.steps.items c.loop-turn.invariant.way c.loop-turn.invariant.due

pub loop-turn-preserved : goal.loop-turn-preserved
loop-turn-preserved c =
    let after = c.in-Ok-turn.ensures.goes_on c.args.state.now c.requires.state c.sound.ensures c.requires.source c.loop-turn.invariant.way c.loop-turn.invariant.due in
    record { way = after.0; due = after.1 }

pub returns-then-done-clause-way : goal.returns-then-done-clause-way
returns-then-done-clause-way c = (c.in-Ok-turn.ensures.goes_on c.args.state.now c.requires.state c.sound.ensures c.requires.source c.loop-turn.invariant.way c.loop-turn.invariant.due).0

pub returns-then-done-clause-own : goal.returns-then-done-clause-own
returns-then-done-clause-own c = record { has = c.in-Ok-turn.ensures.has c.if-done.true; renamed = c.renamed_item.ensures }

pub returns-in-Err-turn-clause-way : goal.returns-in-Err-turn-clause-way
returns-in-Err-turn-clause-way c = c.in-Err-turn.ensures.goes_on c.args.state.now c.requires.state c.sound.ensures c.requires.source c.loop-turn.invariant.way c.loop-turn.invariant.due

pub returns-clause-way : goal.returns-clause-way
returns-clause-way c = memory_refused c.args.types.now (near_keys c.args.near.now) (item_keys c.args.kind.now) c.args.state.now

pub returns-in-Some-clause-way : goal.returns-in-Some-clause-way
returns-in-Some-clause-way c = c.in-Ok.ensures.0
