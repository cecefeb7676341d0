use Rattle.wac_component.specs.Key.{Stands, item_keys}
use Rattle.wac_component.proofs.Extended.{AllStand-Extends, Extends-refl, Extends-trans}
use Rattle.wac_component.proofs.Keys.{Each-left, Each-right}
use Rattle.wac_merge.proofs.StepLemmas.{no_steps_stand, steps_stand_on}
use Rattle.wac_merge.proofs.steps.tell.Goals as goal

pub loop-turn-init : goal.loop-turn-init
loop-turn-init c = record { way = λ d sound stand way. (way, no_steps_stand d c.args.steps.now.items c.requires.no_steps); grows = Extends-refl c.args.types.now }

pub turn-requires-clause-left : goal.turn-requires-clause-left
turn-requires-clause-left c =
    let w = c.requires.way in
    let now = c.loop-turn.invariant.way w.0 w.1 w.2 w.3 in
    AllStand-Extends w.0 c.loop-turn.types now.0.ran.only.extends (item_keys c.args.a) (Each-left (Stands w.0) (item_keys c.args.a) (item_keys c.args.b) w.2)

pub turn-requires-clause-right : goal.turn-requires-clause-right
turn-requires-clause-right c =
    let w = c.requires.way in
    let now = c.loop-turn.invariant.way w.0 w.1 w.2 w.3 in
    AllStand-Extends w.0 c.loop-turn.types now.0.ran.only.extends (item_keys c.args.b) (Each-right (Stands w.0) (item_keys c.args.a) (item_keys c.args.b) w.2)

pub turn-requires-clause-memo : goal.turn-requires-clause-memo
turn-requires-clause-memo c =
    let w = c.requires.way in
    (c.loop-turn.invariant.way w.0 w.1 w.2 w.3).0.true_memo

pub turn-requires-clause-steps : goal.turn-requires-clause-steps
turn-requires-clause-steps c =
    let w = c.requires.way in
    let now = c.loop-turn.invariant.way w.0 w.1 w.2 w.3 in
    steps_stand_on w.0 c.loop-turn.types c.loop-turn.steps.items now.0.ran.only.extends now.1

pub loop-turn-preserved : goal.loop-turn-preserved
loop-turn-preserved c = record {
  way = λ d sound stand way.
      let now = c.loop-turn.invariant.way d sound stand way in
      c.turn.ensures.goes_on d sound stand now.0 now.1;
  grows = Extends-trans c.args.types.now c.loop-turn.types c.turn.new.types c.loop-turn.invariant.grows c.turn.ensures.extends;
}

pub returns-in_err-told-clause-way : goal.returns-in_err-told-clause-way
returns-in_err-told-clause-way c = λ d sound stand way.
    let now = c.loop-turn.invariant.way d sound stand way in
    (c.turn.ensures.goes_on d sound stand now.0 now.1).0

pub returns-in_err-told-clause-grows : goal.returns-in_err-told-clause-grows
returns-in_err-told-clause-grows c = Extends-trans c.args.types.now c.loop-turn.types c.turn.new.types c.loop-turn.invariant.grows c.turn.ensures.extends

pub returns-in-Some-clause-way : goal.returns-in-Some-clause-way
returns-in-Some-clause-way c = λ d sound stand way.
    let now = c.loop-turn.invariant.way d sound stand way in
    (c.turn.ensures.goes_on d sound stand now.0 now.1).0

pub returns-in-Some-clause-grows : goal.returns-in-Some-clause-grows
returns-in-Some-clause-grows c = Extends-trans c.args.types.now c.loop-turn.types c.turn.new.types c.loop-turn.invariant.grows c.turn.ensures.extends

pub returns-clause-way : goal.returns-clause-way
returns-clause-way c = λ d sound stand way. (c.loop-turn.invariant.way d sound stand way).0
