use Rattle.std.proofs.Common.{◌≡◌, None, refl, sym, ◌∙◌, arith}
use Rattle.wac_component.specs.Content.{world_content}
use Rattle.wac_component.specs.Height.{height}
use Rattle.wac_component.specs.Key.{interface_sort, world_sort, item_keys, named_keys, world_key}
use Rattle.wac_aggregator_memo.specs.Memo.{memo_of}
use Rattle.wac_component.proofs.Members.{world_uses_stand, world_exports_stand}
use Rattle.wac_aggregator_taking.specs.Steps.{IsReachedFrom}
use Rattle.wac_aggregator_taking.specs.declared.steps.TakeStep.TheVariants.{WorldUses, WorldExports}
use Rattle.wac_aggregator_taking.proofs.Alike.{IsNear-none, absent_of}
use Rattle.wac_aggregator_taking.proofs.Members.{TakesMembers-none}
use Rattle.wac_aggregator_taking.proofs.ReadyLemmas.{parts_take, world_exports_below}
use Rattle.wac_aggregator_taking.proofs.StepAnswers.{walk_within, export_within, within_world_exports, world_noted, world_has, members_after, opened_members, taken_after}
use Rattle.wac_aggregator_taking.proofs.StepLemmas.{goes_on_next, put_next, next_none, next_then, members_grown, on_ok}
use Rattle.wac_aggregator_taking.proofs.TakeLemmas.{MayTake-Takes, Takes-none}
use Rattle.wac_aggregator_taking.proofs.worlds.take_world_exports.Goals as goal

pub returns-then-is_some-clause-taken : goal.returns-then-is_some-clause-taken
returns-then-is_some-clause-taken c = Takes-none c.args.types.now c.args.state.now _ _ (λ s. Unit {0}) c.requires.state tt

pub returns-then-is_some-clause-members : goal.returns-then-is_some-clause-members
returns-then-is_some-clause-members c = λ taken wit has all. TakesMembers-none c.args.types.now c.args.state.now (IsReachedFrom c.args.types.now (world_key c.args.id)) taken has

pub returns-then-is_some-clause-steps : goal.returns-then-is_some-clause-steps
returns-then-is_some-clause-steps c = next_none c.args.types.now c.args.state.now (world_key c.args.id) None c.args.steps.now.items

pub take_ready-requires-clause-source : goal.take_ready-requires-clause-source
take_ready-requires-clause-source c = world_exports_stand c.args.types.now (world_content c.index-world.result.now) c.index-world.ensures.standing

pub returns-then-at-len-clause-taken : goal.returns-then-at-len-clause-taken
returns-then-at-len-clause-taken c =
    let f = c.args.types.now in
    let x = world_content c.index-world.result.now in
    parts_take f c.args.state.now c.take_ready.new.state (world_key c.args.id) (named_keys item_keys x.exports) (within_world_exports f c.args.id x c.index-world.ensures.entry) (omega (arith, world_exports_below f c.args.id x c.sound.ensures c.requires.source c.index-world.ensures.entry)) c.requires.state c.in_ok-at.ensures.taken

pub returns-then-at-len-clause-members : goal.returns-then-at-len-clause-members
returns-then-at-len-clause-members c = members_grown c.args.types.now c.args.state.now c.take_ready.new.state (world_key c.args.id) (tt {0}) c.requires.state.kept c.in_ok-at.ensures.taken.run c.in_ok-at.ensures.grows

pub returns-then-at-len-clause-steps : goal.returns-then-at-len-clause-steps
returns-then-at-len-clause-steps c =
    let f = c.args.types.now in
    let b = c.take_ready.new.state in
    let k = world_key c.args.id in
    let x = world_content c.index-world.result.now in
    let ss = c.args.steps.now.items in
    let mid = c.push_step.new.steps.items in
    let ts = c.push_item.new.steps.items in
    let kind = c.nth_extern.result in
    next_then f b k None ss mid ts
    (goes_on_next f b k None None ss mid (WorldExports c.args.id c.saturating_add.result) c.in_ok-push_step.ensures refl refl (IsNear-none b) (λ at all by. by))
    (put_next f b k None None (item_keys kind) mid ts (walk_within f k (item_keys kind) (export_within f k c.index-world.result.now.exports.entries c.in_ok-at.at kind (within_world_exports f c.args.id x c.index-world.ensures.entry) c.nth_extern.ensures))
    (IsNear-none b) (λ at all by. by) c.in_ok-push_item.ensures)

pub has_contents-requires : goal.has_contents-requires
has_contents-requires c = record { source = world_uses_stand c.args.types.now (world_content c.index-world.result.now) c.index-world.ensures.standing; noted = λ i k after below at. c.in_ok-at.ensures.noted i k after (omega arith) at }

pub returns-then-not-has_contents-clause-taken : goal.returns-then-not-has_contents-clause-taken
returns-then-not-has_contents-clause-taken c =
    let f = c.args.types.now in
    let x = world_content c.index-world.result.now in
    parts_take f c.args.state.now c.take_ready.new.state (world_key c.args.id) (named_keys item_keys x.exports) (within_world_exports f c.args.id x c.index-world.ensures.entry) (omega (arith, world_exports_below f c.args.id x c.sound.ensures c.requires.source c.index-world.ensures.entry)) c.requires.state c.in_ok-at.ensures.taken

pub returns-then-not-has_contents-clause-members : goal.returns-then-not-has_contents-clause-members
returns-then-not-has_contents-clause-members c = members_grown c.args.types.now c.args.state.now c.take_ready.new.state (world_key c.args.id) (tt {0}) c.requires.state.kept c.in_ok-at.ensures.taken.run c.in_ok-at.ensures.grows

pub returns-then-not-has_contents-clause-steps : goal.returns-then-not-has_contents-clause-steps
returns-then-not-has_contents-clause-steps c =
    let b = c.take_ready.new.state in
    goes_on_next c.args.types.now b (world_key c.args.id) None None c.args.steps.now.items c.push_step-then-not-has_contents.new.steps.items (WorldUses c.args.id 0) c.in_ok-push_step-2.ensures refl refl (IsNear-none b) (λ at all by. by)

pub make_world-requires-clause-state : goal.make_world-requires-clause-state
make_world-requires-clause-state c = MayTake-Takes c.args.types.now c.args.state.now c.take_ready.new.state _ _ _ c.requires.state c.in_ok-at.ensures.taken

pub make_world-requires-clause-new : goal.make_world-requires-clause-new
make_world-requires-clause-new c =
    c.in_ok-at.ensures.taken.low (world_key c.args.id) (world_exports_below c.args.types.now c.args.id (world_content c.index-world.result.now) c.sound.ensures c.requires.source c.index-world.ensures.entry)
    (sym c.world.ensures ∙ absent_of world_key c.world.result (sym c.is_some.ensures ∙ c.if-is_some.false))

pub make_world-requires-clause-has : goal.make_world-requires-clause-has
make_world-requires-clause-has c = world_noted c.args.types.now (memo_of c.take_ready.new.state.taken) c.args.id (world_content c.index-world.result.now) c.index-world.ensures.entry (c.has_contents.ensures.uses c.if-not-has_contents.false) (c.has_contents.ensures.exports c.if-not-has_contents.false)

pub returns-clause-taken : goal.returns-clause-taken
returns-clause-taken c =
    let f = c.args.types.now in
    let a = c.args.state.now in
    let b = c.take_ready.new.state in
    let k = world_key c.args.id in
    let x = world_content c.index-world.result.now in
    let first = parts_take f a b k (named_keys item_keys x.exports) (within_world_exports f c.args.id x c.index-world.ensures.entry) (omega (arith, world_exports_below f c.args.id x c.sound.ensures c.requires.source c.index-world.ensures.entry)) c.requires.state c.in_ok-at.ensures.taken in
    taken_after f a b k c.make_world.new.state (height f k) (λ t. Unit {0}) (omega arith) c.requires.state first c.make_world.result c.make_world.ensures

pub returns-clause-members : goal.returns-clause-members
returns-clause-members c =
    let f = c.args.types.now in
    let a = c.args.state.now in
    let b = c.take_ready.new.state in
    let d = c.make_world.new.state in
    let k = world_key c.args.id in
    let x = world_content c.index-world.result.now in
    let m = memo_of b.taken in
    let may = MayTake-Takes f a b _ _ _ c.requires.state c.in_ok-at.ensures.taken in
    let first = parts_take f a b k (named_keys item_keys x.exports) (within_world_exports f c.args.id x c.index-world.ensures.entry) (omega (arith, world_exports_below f c.args.id x c.sound.ensures c.requires.source c.index-world.ensures.entry)) c.requires.state c.in_ok-at.ensures.taken in
    members_after f a b k d (height f k) (λ t. Unit {0}) (omega arith) c.requires.state first c.make_world.result c.in_ok-at.ensures.grows
    (opened_members f b d k c.make_world.result c.sound.ensures may c.requires.source (λ e. let no : world_sort ≡ interface_sort = e in cc)
    (world_has f m c.args.id x c.index-world.ensures.entry (c.has_contents.ensures.uses c.if-not-has_contents.false) (c.has_contents.ensures.exports c.if-not-has_contents.false)) c.make_world.ensures)

pub returns-clause-steps : goal.returns-clause-steps
returns-clause-steps c = on_ok c.make_world.result (next_none c.args.types.now c.make_world.new.state (world_key c.args.id) None c.args.steps.now.items)
