use Rattle.wac_component.specs.Key.{Stands, item_keys}
use Rattle.wac_component.proofs.Extended.{AllStand-Extends}
use Rattle.wac_component.proofs.Keys.{Each-append}
use Rattle.wac_merge.proofs.BuiltLemmas.{IfOk-refused}
use Rattle.wac_merge.proofs.StepLemmas.{underway_first, no_steps_stand, underway_bounded, builds}
use Rattle.wac_merge.proofs.steps.take_steps.Goals as goal

pub loop-turn-init : goal.loop-turn-init
loop-turn-init c = record { way = underway_first c.args.types.now c.args.memo.now c.requires.memo c.requires.new; stand = no_steps_stand c.args.types.now c.args.steps.now.items c.requires.no_steps }

pub turn-requires-clause-left : goal.turn-requires-clause-left
turn-requires-clause-left c = AllStand-Extends c.args.types.now c.loop-turn.types c.loop-turn.invariant.way.ran.only.extends (item_keys c.args.a) c.requires.left

pub turn-requires-clause-right : goal.turn-requires-clause-right
turn-requires-clause-right c = AllStand-Extends c.args.types.now c.loop-turn.types c.loop-turn.invariant.way.ran.only.extends (item_keys c.args.b) c.requires.right

pub loop-turn-preserved : goal.loop-turn-preserved
loop-turn-preserved c =
    let after = c.turn.ensures.goes_on c.args.types.now c.sound.ensures (Each-append (Stands c.args.types.now) (item_keys c.args.a) (item_keys c.args.b) c.requires.left c.requires.right) c.loop-turn.invariant.way c.loop-turn.invariant.stand in
    record { way = after.0; stand = after.1 }

pub returns-in_err-told-clause-builds : goal.returns-in_err-told-clause-builds
returns-in_err-told-clause-builds c =
    let after = c.turn.ensures.goes_on c.args.types.now c.sound.ensures (Each-append (Stands c.args.types.now) (item_keys c.args.a) (item_keys c.args.b) c.requires.left c.requires.right) c.loop-turn.invariant.way c.loop-turn.invariant.stand in
    builds c.args.bound c.args.types.now c.turn.new.types c.turn.new.memo c.args.a c.args.b c.sound.ensures c.requires.left c.requires.right after.0 c.from_residual.result (IfOk-refused c.from_residual.result _ c.from_residual.ensures.0)

pub returns-in_err-told-clause-bounded : goal.returns-in_err-told-clause-bounded
returns-in_err-told-clause-bounded c =
    let after = c.turn.ensures.goes_on c.args.types.now c.sound.ensures (Each-append (Stands c.args.types.now) (item_keys c.args.a) (item_keys c.args.b) c.requires.left c.requires.right) c.loop-turn.invariant.way c.loop-turn.invariant.stand in
    underway_bounded c.args.types.now c.turn.new.types c.turn.new.memo after.0

pub returns-in-Some-clause-builds : goal.returns-in-Some-clause-builds
returns-in-Some-clause-builds c =
    let after = c.turn.ensures.goes_on c.args.types.now c.sound.ensures (Each-append (Stands c.args.types.now) (item_keys c.args.a) (item_keys c.args.b) c.requires.left c.requires.right) c.loop-turn.invariant.way c.loop-turn.invariant.stand in
    builds c.args.bound c.args.types.now c.turn.new.types c.turn.new.memo c.args.a c.args.b c.sound.ensures c.requires.left c.requires.right after.0 _ (rw c.in-Some.is at c.in_ok-told.ensures.told)

pub returns-in-Some-clause-bounded : goal.returns-in-Some-clause-bounded
returns-in-Some-clause-bounded c =
    let after = c.turn.ensures.goes_on c.args.types.now c.sound.ensures (Each-append (Stands c.args.types.now) (item_keys c.args.a) (item_keys c.args.b) c.requires.left c.requires.right) c.loop-turn.invariant.way c.loop-turn.invariant.stand in
    underway_bounded c.args.types.now c.turn.new.types c.turn.new.memo after.0

pub returns-clause-builds : goal.returns-clause-builds
returns-clause-builds c = builds c.args.bound c.args.types.now c.loop-turn.types c.loop-turn.memo c.args.a c.args.b c.sound.ensures c.requires.left c.requires.right c.loop-turn.invariant.way _ tt

pub returns-clause-bounded : goal.returns-clause-bounded
returns-clause-bounded c = underway_bounded c.args.types.now c.loop-turn.types c.loop-turn.memo c.loop-turn.invariant.way
