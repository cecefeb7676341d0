use Rattle.std.proofs.Common.{refl, arith}
use Rattle.wac_component.specs.Content.{interface_content}
use Rattle.wac_component.specs.Height.{height}
use Rattle.wac_component.specs.Key.{item_keys, named_keys, interface_key}
use Rattle.wac_aggregator_memo.specs.Memo.{memo_of}
use Rattle.wac_component.proofs.Members.{uses_stand, exports_stand}
use Rattle.wac_aggregator_taking.specs.Takes.{near_keys}
use Rattle.wac_aggregator_taking.proofs.Alike.{IsNear-led, IsNear-Takes, near_below}
use Rattle.wac_aggregator_taking.proofs.ReadyLemmas.{exports_below, parts_take, parts_take_by}
use Rattle.wac_aggregator_taking.proofs.StepAnswers.{walk_within, export_within, within_exports, interface_noted, members_after, taken_after, whatever_near}
use Rattle.wac_aggregator_taking.proofs.StepLemmas.{goes_on_next, put_next, next_none, next_then, members_grown, members_reached, on_ok}
use Rattle.wac_aggregator_taking.proofs.TakeLemmas.{MayTake-Takes}
use Rattle.wac_aggregator_taking.proofs.interfaces.take_new_exports.Goals as goal

pub take_ready-requires-clause-source : goal.take_ready-requires-clause-source
take_ready-requires-clause-source c = exports_stand c.args.types.now (interface_content c.index-interface.result.now) c.index-interface.ensures.standing

pub near_interface-below-requires-clause-near : goal.near_interface-below-requires-clause-near
near_interface-below-requires-clause-near c = λ i is. (IsNear-Takes c.args.types.now c.args.state.now c.take_ready.new.state _ _ _ c.args.near.now c.requires.state c.in_ok-at.ensures.taken c.requires.near i is).0

pub returns-then-at-len-clause-taken : goal.returns-then-at-len-clause-taken
returns-then-at-len-clause-taken c =
    let f = c.args.types.now in
    let x = interface_content c.index-interface.result.now in
    parts_take_by f c.args.state.now c.take_ready.new.state (interface_key c.args.id) (named_keys item_keys x.exports) (within_exports f c.args.id x c.index-interface.ensures.entry) (omega (arith, exports_below f c.args.id x c.sound.ensures c.requires.source c.index-interface.ensures.entry)) c.requires.state c.in_ok-at.ensures.taken (near_keys c.args.near.now)

pub returns-then-at-len-clause-members : goal.returns-then-at-len-clause-members
returns-then-at-len-clause-members c = members_grown c.args.types.now c.args.state.now c.take_ready.new.state (interface_key c.args.id) (tt {0}) c.requires.state.kept c.in_ok-at.ensures.taken.run c.in_ok-at.ensures.grows

pub returns-then-at-len-clause-steps : goal.returns-then-at-len-clause-steps
returns-then-at-len-clause-steps c =
    let f = c.args.types.now in
    let b = c.take_ready.new.state in
    let may = MayTake-Takes f c.args.state.now b _ _ _ c.requires.state c.in_ok-at.ensures.taken in
    let own = IsNear-Takes f c.args.state.now b _ _ _ c.args.near.now c.requires.state c.in_ok-at.ensures.taken c.requires.near in
    let k = interface_key c.args.id in
    let x = interface_content c.index-interface.result.now in
    let near = c.args.near.now in
    let below = c.near_interface-below.result in
    let ss = c.args.steps.now.items in
    let mid = c.push_step.new.steps.items in
    let ts = c.push_item.new.steps.items in
    let kind = c.nth_extern.result in
    next_then f b k near ss mid ts
    (goes_on_next f b k near near ss mid c.exports_step.result c.in_ok-push_step.ensures c.exports_step.ensures.key c.exports_step.ensures.near own (λ at all by. by))
    (put_next f b k near below (item_keys kind) mid ts (walk_within f k (item_keys kind) (export_within f k c.index-interface.result.now.exports.entries c.in_ok-at.at kind (within_exports f c.args.id x c.index-interface.ensures.entry) c.nth_extern.ensures))
    (IsNear-led b near below may.kept own c.near_interface-below.ensures) (λ at all by. near_below at b near below may.kept c.near_interface-below.ensures by) c.in_ok-push_item.ensures)

pub has_contents-requires : goal.has_contents-requires
has_contents-requires c = record { source = uses_stand c.args.types.now (interface_content c.index-interface.result.now) c.index-interface.ensures.standing; noted = λ i k after below at. c.in_ok-at.ensures.noted i k after (omega arith) at }

pub returns-then-not-has_contents-clause-taken : goal.returns-then-not-has_contents-clause-taken
returns-then-not-has_contents-clause-taken c =
    let f = c.args.types.now in
    let x = interface_content c.index-interface.result.now in
    parts_take_by f c.args.state.now c.take_ready.new.state (interface_key c.args.id) (named_keys item_keys x.exports) (within_exports f c.args.id x c.index-interface.ensures.entry) (omega (arith, exports_below f c.args.id x c.sound.ensures c.requires.source c.index-interface.ensures.entry)) c.requires.state c.in_ok-at.ensures.taken (near_keys c.args.near.now)

pub returns-then-not-has_contents-clause-members : goal.returns-then-not-has_contents-clause-members
returns-then-not-has_contents-clause-members c = members_grown c.args.types.now c.args.state.now c.take_ready.new.state (interface_key c.args.id) (tt {0}) c.requires.state.kept c.in_ok-at.ensures.taken.run c.in_ok-at.ensures.grows

pub returns-then-not-has_contents-clause-steps : goal.returns-then-not-has_contents-clause-steps
returns-then-not-has_contents-clause-steps c =
    let b = c.take_ready.new.state in
    let own = IsNear-Takes c.args.types.now c.args.state.now b _ _ _ c.args.near.now c.requires.state c.in_ok-at.ensures.taken c.requires.near in
    let near = c.args.near.now in
    goes_on_next c.args.types.now b (interface_key c.args.id) near near c.args.steps.now.items c.push_step-then-not-has_contents.new.steps.items c.uses_step.result c.in_ok-push_step-2.ensures c.uses_step.ensures.key c.uses_step.ensures.near own (λ at all by. by)

pub make_interface-requires-clause-state : goal.make_interface-requires-clause-state
make_interface-requires-clause-state c = MayTake-Takes c.args.types.now c.args.state.now c.take_ready.new.state _ _ _ c.requires.state c.in_ok-at.ensures.taken

pub make_interface-requires-clause-new : goal.make_interface-requires-clause-new
make_interface-requires-clause-new c =
    c.in_ok-at.ensures.taken.low (interface_key c.args.id) (exports_below c.args.types.now c.args.id (interface_content c.index-interface.result.now) c.sound.ensures c.requires.source c.index-interface.ensures.entry)
    c.requires.new

pub make_interface-requires-clause-has : goal.make_interface-requires-clause-has
make_interface-requires-clause-has c = interface_noted c.args.types.now (memo_of c.take_ready.new.state.taken) c.args.id (interface_content c.index-interface.result.now) c.index-interface.ensures.entry (c.has_contents.ensures.uses c.if-not-has_contents.false) (c.has_contents.ensures.exports c.if-not-has_contents.false)

pub returns-clause-taken : goal.returns-clause-taken
returns-clause-taken c =
    let f = c.args.types.now in
    let a = c.args.state.now in
    let b = c.take_ready.new.state in
    let d = c.make_interface.new.state in
    let k = interface_key c.args.id in
    let x = interface_content c.index-interface.result.now in
    let first = parts_take f a b k (named_keys item_keys x.exports) (within_exports f c.args.id x c.index-interface.ensures.entry) (omega (arith, exports_below f c.args.id x c.sound.ensures c.requires.source c.index-interface.ensures.entry)) c.requires.state c.in_ok-at.ensures.taken in
    whatever_near f a d k (near_keys c.args.near.now) c.make_interface.result (taken_after f a b k d (height f k) (λ t. Unit {0}) (omega arith) c.requires.state first c.make_interface.result c.make_interface.ensures.taken)

pub returns-clause-members : goal.returns-clause-members
returns-clause-members c =
    let f = c.args.types.now in
    let a = c.args.state.now in
    let b = c.take_ready.new.state in
    let d = c.make_interface.new.state in
    let k = interface_key c.args.id in
    let x = interface_content c.index-interface.result.now in
    let first = parts_take f a b k (named_keys item_keys x.exports) (within_exports f c.args.id x c.index-interface.ensures.entry) (omega (arith, exports_below f c.args.id x c.sound.ensures c.requires.source c.index-interface.ensures.entry)) c.requires.state c.in_ok-at.ensures.taken in
    members_after f a b k d (height f k) (λ t. Unit {0}) (omega arith) c.requires.state first c.make_interface.result c.in_ok-at.ensures.grows (members_reached f b d k c.args.id c.make_interface.result refl c.make_interface.ensures.members)

pub returns-clause-steps : goal.returns-clause-steps
returns-clause-steps c = on_ok c.make_interface.result (next_none c.args.types.now c.make_interface.new.state (interface_key c.args.id) c.args.near.now c.args.steps.now.items)
