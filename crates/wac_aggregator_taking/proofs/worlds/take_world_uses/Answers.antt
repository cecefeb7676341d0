use Rattle.std.proofs.Common.{None, [], ap, refl}
use Rattle.std.specs.Option.{option_map_or}
use Rattle.wac_component.specs.Content.{world_content}
use Rattle.wac_component.specs.Entries.{entry_uses}
use Rattle.wac_component.specs.Id.{Id}
use Rattle.wac_component.specs.Key.{interface_key, world_key}
use Rattle.wac_component.proofs.Members.{world_uses_stand}
use Rattle.wac_component.proofs.Reading.{world_at}
use Rattle.wac_aggregator_errors.proofs.Passing.{passed_on}
use Rattle.wac_aggregator_taking.specs.Members.{IsMemberRefusal}
use Rattle.wac_aggregator_taking.specs.Steps.{IsReachedFrom}
use Rattle.wac_aggregator_taking.specs.declared.steps.TakeStep.TheVariants.{Uses, WorldUses, WorldExports}
use Rattle.wac_aggregator_taking.proofs.Alike.{IsNear-none}
use Rattle.wac_aggregator_taking.proofs.Members.{TakesMembers-none, member_refused_unidentified}
use Rattle.wac_aggregator_taking.proofs.Refusals.{refused_uses}
use Rattle.wac_aggregator_taking.proofs.StepAnswers.{use_walk, within_world_uses}
use Rattle.wac_aggregator_taking.proofs.StepLemmas.{goes_on_next, goes_on_after, next_none}
use Rattle.wac_aggregator_taking.proofs.TakeLemmas.{Takes-none}
use Rattle.wac_aggregator_taking.proofs.worlds.take_world_uses.Goals as goal

pub returns-then-is_some-clause-taken : goal.returns-then-is_some-clause-taken
returns-then-is_some-clause-taken c = Takes-none c.args.types.now c.args.state.now _ _ (λ s. Unit {0}) c.requires.state tt

pub returns-then-is_some-clause-members : goal.returns-then-is_some-clause-members
returns-then-is_some-clause-members c = λ taken wit has all. TakesMembers-none c.args.types.now c.args.state.now (IsReachedFrom c.args.types.now (world_key c.args.id)) taken has

pub returns-then-is_some-clause-steps : goal.returns-then-is_some-clause-steps
returns-then-is_some-clause-steps c = next_none c.args.types.now c.args.state.now (world_key c.args.id) None c.args.steps.now.items

pub used_at-requires-clause-source : goal.used_at-requires-clause-source
used_at-requires-clause-source c = world_uses_stand c.args.types.now (world_content c.index-world.result.now) c.index-world.ensures.standing

pub returns-in_err-used-clause-taken : goal.returns-in_err-used-clause-taken
returns-in_err-used-clause-taken c =
    let f = c.args.types.now in
    let x = world_content c.index-world.result.now in
    refused_uses [] f c.args.state.now (world_key c.args.id) x.uses c.from_residual.result _ c.in_err-used.field-0.0 (ap (λ o. option_map_or entry_uses o []) (world_at f c.args.id x c.index-world.ensures.entry)) (c.in_err-used.ensures.refused c.args.state.now) c.from_residual.ensures

pub returns-in_err-used-clause-members : goal.returns-in_err-used-clause-members
returns-in_err-used-clause-members c = λ taken wit has all.
    let P : Id → Type 0 = IsReachedFrom c.args.types.now (world_key c.args.id) in
    passed_on c.from_residual.result _ (IsMemberRefusal c.args.types.now P taken) c.in_err-used.field-0.0 c.from_residual.ensures (member_refused_unidentified c.args.types.now P taken c.in_err-used.field-0.0 c.in_err-used.ensures.unidentified)

pub returns-then-next-len-clause-taken : goal.returns-then-next-len-clause-taken
returns-then-next-len-clause-taken c = Takes-none c.args.types.now c.args.state.now _ _ (λ s. Unit {0}) c.requires.state tt

pub returns-then-next-len-clause-members : goal.returns-then-next-len-clause-members
returns-then-next-len-clause-members c = λ taken wit has all. TakesMembers-none c.args.types.now c.args.state.now (IsReachedFrom c.args.types.now (world_key c.args.id)) taken has

pub returns-then-next-len-clause-steps : goal.returns-then-next-len-clause-steps
returns-then-next-len-clause-steps c =
    let f = c.args.types.now in
    let k = world_key c.args.id in
    let x = world_content c.index-world.result.now in
    let o = c.in_ok-used.used in
    goes_on_after f c.args.state.now k (interface_key o) None c.args.steps.now.items c.push_before.new.steps.items (WorldUses c.args.id c.saturating_add.result) (Uses o 0) c.in_ok-push_before.ensures refl refl refl refl
    (use_walk f k c.index-world.result.now.uses.entries c.args.next o (within_world_uses f c.args.id x c.index-world.ensures.entry) c.in_ok-used.ensures.used) (IsNear-none c.args.state.now)

pub returns-clause-taken : goal.returns-clause-taken
returns-clause-taken c = Takes-none c.args.types.now c.args.state.now _ _ (λ s. Unit {0}) c.requires.state tt

pub returns-clause-members : goal.returns-clause-members
returns-clause-members c = λ taken wit has all. TakesMembers-none c.args.types.now c.args.state.now (IsReachedFrom c.args.types.now (world_key c.args.id)) taken has

pub returns-clause-steps : goal.returns-clause-steps
returns-clause-steps c =
    let a = c.args.state.now in
    goes_on_next c.args.types.now a (world_key c.args.id) None None c.args.steps.now.items c.push_step.new.steps.items (WorldExports c.args.id 0) c.in_ok-push_step.ensures refl refl (IsNear-none a) (λ at all by. by)
