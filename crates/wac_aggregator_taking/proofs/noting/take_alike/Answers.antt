use Rattle.std.proofs.Common.{◌≤◌, [], ◌∷◌, Some, refl, arith}
use Rattle.wac_component.specs.Content.{interface_content}
use Rattle.wac_component.specs.Height.{height, keys_height}
use Rattle.wac_component.specs.Key.{item_keys, optional_keys, interface_key}
use Rattle.wac_component.proofs.Members.{exports_stand, exports_lower}
use Rattle.wac_aggregator_taking.specs.Steps.{IsReachedFrom, owed_keys}
use Rattle.wac_aggregator_taking.specs.Takes.{near_keys}
use Rattle.wac_aggregator_taking.specs.declared.steps.TakeStep.TheVariants.{ExportsBy}
use Rattle.wac_aggregator_taking.proofs.Alike.{IsNear-Takes, near_item, own_if_led}
use Rattle.wac_aggregator_taking.proofs.Members.{TakesMembers-none, TakesMembers-grown}
use Rattle.wac_aggregator_taking.proofs.PartHeights.{named_lower, named_stands}
use Rattle.wac_aggregator_taking.proofs.Refusals.{refused_near, refused_within}
use Rattle.wac_aggregator_taking.proofs.StepAnswers.{walk_more, export_within, within_exports}
use Rattle.wac_aggregator_taking.proofs.StepLemmas.{goes_on_next, put_next, members_unidentified}
use Rattle.wac_aggregator_taking.proofs.TakeLemmas.{Takes-none, Takes-more, Takes-near}
use Rattle.wac_aggregator_taking.proofs.Within.{within_trans}
use Rattle.wac_aggregator_taking.proofs.noting.take_alike.Goals as goal

pub returns-then-next-len-clause-taken : goal.returns-then-next-len-clause-taken
returns-then-next-len-clause-taken c = Takes-none c.args.types.now c.args.state.now _ _ (λ s. Unit {0}) c.requires.state tt

pub returns-then-next-len-clause-members : goal.returns-then-next-len-clause-members
returns-then-next-len-clause-members c = λ taken wit has all. TakesMembers-none c.args.types.now c.args.state.now (IsReachedFrom c.args.types.now (interface_key c.args.id)) taken has

pub returns-then-next-len-clause-steps : goal.returns-then-next-len-clause-steps
returns-then-next-len-clause-steps c = goes_on_next c.args.types.now c.args.state.now (interface_key c.args.id) (Some c.args.near) (Some c.args.near) c.args.steps.now.items c.push_step.new.steps.items (ExportsBy c.args.id c.args.near 0) c.in_ok-push_step.ensures refl refl c.requires.near (λ at all by. by)

pub near_export-own-requires-clause-near : goal.near_export-own-requires-clause-near
near_export-own-requires-clause-near c = λ i is. (c.requires.near i is).0

pub note_alike-requires-clause-source : goal.note_alike-requires-clause-source
note_alike-requires-clause-source c = named_stands item_keys (λ k. k) c.args.types.now c.index.result.now.exports.entries c.args.next c.nth_extern.result c.nth_extern.ensures (exports_stand c.args.types.now (interface_content c.index.result.now) c.index.ensures.standing)

pub note_alike-requires-clause-own : goal.note_alike-requires-clause-own
note_alike-requires-clause-own c = own_if_led c.args.state.now (Some c.args.near) c.near_export-own.result c.requires.state.kept c.requires.near c.near_export-own.ensures

pub returns-in_ok-push_alike-in-Ok-clause-taken : goal.returns-in_ok-push_alike-in-Ok-clause-taken
returns-in_ok-push_alike-in-Ok-clause-taken c =
    let f = c.args.types.now in
    let a = c.args.state.now in
    let b = c.note_alike.new.state in
    let k = interface_key c.args.id in
    let x = interface_content c.index.result.now in
    let es = c.index.result.now.exports.entries in
    let kind = c.nth_extern.result in
    let own = c.near_export-own.result in
    let low : keys_height f (item_keys kind) ≤ height f k = omega (arith, named_lower item_keys (λ k. k) f es c.args.next kind c.nth_extern.ensures, exports_lower f x, c.index.ensures.lower) in
    Takes-more f a b (keys_height f (item_keys kind)) (height f k) (item_keys kind) (k ∷ []) (λ t. Unit {0}) (λ t. Unit {0}) low (export_within f k es c.args.next kind (within_exports f c.args.id x c.index.ensures.entry) c.nth_extern.ensures) c.requires.state (λ t kept q. q)
    (Takes-near f (optional_keys item_keys own) (near_keys (Some c.args.near)) a b (keys_height f (item_keys kind)) (item_keys kind) (λ t. Unit {0}) (λ at all by. near_item at a (Some c.args.near) own c.requires.state.kept c.near_export-own.ensures by) c.in-Ok.ensures.taken)

pub returns-in_ok-push_alike-in-Ok-clause-members : goal.returns-in_ok-push_alike-in-Ok-clause-members
returns-in_ok-push_alike-in-Ok-clause-members c = λ taken wit has all. TakesMembers-grown c.args.types.now c.args.state.now c.note_alike.new.state (IsReachedFrom c.args.types.now (interface_key c.args.id)) taken c.requires.state.kept c.in-Ok.ensures.taken.run c.in-Ok.ensures.grows has

pub returns-in_ok-push_alike-in-Ok-clause-steps : goal.returns-in_ok-push_alike-in-Ok-clause-steps
returns-in_ok-push_alike-in-Ok-clause-steps c =
    let f = c.args.types.now in
    let a = c.args.state.now in
    let b = c.note_alike.new.state in
    let k = interface_key c.args.id in
    let x = interface_content c.index.result.now in
    let kind = c.nth_extern.result in
    let near = Some c.args.near in
    let owed = owed_keys c.in-Ok.owed in
    put_next f b k near near (k ∷ owed) c.args.steps.now.items c.push_alike.new.steps.items
    (walk_more f k owed (within_trans f owed (item_keys kind) (k ∷ []) c.in-Ok.ensures.owed (export_within f k c.index.result.now.exports.entries c.args.next kind (within_exports f c.args.id x c.index.ensures.entry) c.nth_extern.ensures)))
    (IsNear-Takes f a b _ _ _ near c.requires.state c.in-Ok.ensures.taken c.requires.near) (λ at all by. by) c.in_ok-push_alike-in-Ok.ensures

pub returns-in-Err-clause-taken : goal.returns-in-Err-clause-taken
returns-in-Err-clause-taken c =
    let f = c.args.types.now in
    let a = c.args.state.now in
    let k = interface_key c.args.id in
    let x = interface_content c.index.result.now in
    let kind = c.nth_extern.result in
    let own = c.near_export-own.result in
    refused_within f a (item_keys kind) (k ∷ []) c.in-Err.refusal (export_within f k c.index.result.now.exports.entries c.args.next kind (within_exports f c.args.id x c.index.ensures.entry) c.nth_extern.ensures)
    (refused_near f (optional_keys item_keys own) (near_keys (Some c.args.near)) a (item_keys kind) c.in-Err.refusal (λ at all by. near_item at a (Some c.args.near) own c.requires.state.kept c.near_export-own.ensures by) c.in-Err.ensures.taken)

pub returns-in-Err-clause-members : goal.returns-in-Err-clause-members
returns-in-Err-clause-members c = members_unidentified c.args.types.now c.args.state.now c.note_alike.new.state (interface_key c.args.id) (Unit {0}) c.in-Err.refusal c.in-Err.ensures.unidentified
