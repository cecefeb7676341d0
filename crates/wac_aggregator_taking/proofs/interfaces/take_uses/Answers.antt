use Rattle.std.proofs.Common.{[], ap, refl, sym, ◌∙◌}
use Rattle.std.specs.Option.{option_map_or}
use Rattle.wac_component.specs.Content.{interface_content}
use Rattle.wac_component.specs.Entries.{entry_uses}
use Rattle.wac_component.specs.Id.{Id}
use Rattle.wac_component.specs.Key.{interface_key}
use Rattle.wac_component.proofs.Members.{uses_stand}
use Rattle.wac_component.proofs.Reading.{interface_at}
use Rattle.wac_aggregator_errors.proofs.Passing.{passed_on}
use Rattle.wac_aggregator_taking.specs.Members.{IsMemberRefusal}
use Rattle.wac_aggregator_taking.specs.Steps.{IsReachedFrom}
use Rattle.wac_aggregator_taking.specs.Takes.{near_keys}
use Rattle.wac_aggregator_taking.specs.declared.steps.TakeStep.TheVariants.{Uses}
use Rattle.wac_aggregator_taking.proofs.Alike.{IsNear-none, absent_of, near_nearest}
use Rattle.wac_aggregator_taking.proofs.Members.{TakesMembers-none, member_refused_unidentified}
use Rattle.wac_aggregator_taking.proofs.Refusals.{refused_uses}
use Rattle.wac_aggregator_taking.proofs.ReadyLemmas.{next_apart}
use Rattle.wac_aggregator_taking.proofs.StepAnswers.{use_walk, whatever_near, within_uses}
use Rattle.wac_aggregator_taking.proofs.StepLemmas.{goes_on_next, goes_on_after, next_none, ok_then}
use Rattle.wac_aggregator_taking.proofs.TakeLemmas.{Takes-none}
use Rattle.wac_aggregator_taking.proofs.interfaces.take_uses.Goals as goal

pub returns-then-is_some-clause-taken : goal.returns-then-is_some-clause-taken
returns-then-is_some-clause-taken c = Takes-none c.args.types.now c.args.state.now _ _ (λ s. Unit {0}) c.requires.state tt

pub returns-then-is_some-clause-members : goal.returns-then-is_some-clause-members
returns-then-is_some-clause-members c = λ taken wit has all. TakesMembers-none c.args.types.now c.args.state.now (IsReachedFrom c.args.types.now (interface_key c.args.id)) taken has

pub returns-then-is_some-clause-steps : goal.returns-then-is_some-clause-steps
returns-then-is_some-clause-steps c = next_none c.args.types.now c.args.state.now (interface_key c.args.id) c.args.near.now c.args.steps.now.items

pub used_at-requires-clause-source : goal.used_at-requires-clause-source
used_at-requires-clause-source c = uses_stand c.args.types.now (interface_content c.index-interface.result.now) c.index-interface.ensures.standing

pub returns-in_err-used-clause-taken : goal.returns-in_err-used-clause-taken
returns-in_err-used-clause-taken c =
    let f = c.args.types.now in
    let x = interface_content c.index-interface.result.now in
    refused_uses (near_keys c.args.near.now) f c.args.state.now (interface_key c.args.id) x.uses c.from_residual.result _ c.in_err-used.field-0.0 (ap (λ o. option_map_or entry_uses o []) (interface_at f c.args.id x c.index-interface.ensures.entry)) (c.in_err-used.ensures.refused c.args.state.now) c.from_residual.ensures

pub returns-in_err-used-clause-members : goal.returns-in_err-used-clause-members
returns-in_err-used-clause-members c = λ taken wit has all.
    let P : Id → Type 0 = IsReachedFrom c.args.types.now (interface_key c.args.id) in
    passed_on c.from_residual.result _ (IsMemberRefusal c.args.types.now P taken) c.in_err-used.field-0.0 c.from_residual.ensures (member_refused_unidentified c.args.types.now P taken c.in_err-used.field-0.0 c.in_err-used.ensures.unidentified)

pub returns-then-next-len-clause-taken : goal.returns-then-next-len-clause-taken
returns-then-next-len-clause-taken c = Takes-none c.args.types.now c.args.state.now _ _ (λ s. Unit {0}) c.requires.state tt

pub returns-then-next-len-clause-members : goal.returns-then-next-len-clause-members
returns-then-next-len-clause-members c = λ taken wit has all. TakesMembers-none c.args.types.now c.args.state.now (IsReachedFrom c.args.types.now (interface_key c.args.id)) taken has

pub returns-then-next-len-clause-steps : goal.returns-then-next-len-clause-steps
returns-then-next-len-clause-steps c =
    let f = c.args.types.now in
    let k = interface_key c.args.id in
    let x = interface_content c.index-interface.result.now in
    let o = c.in_ok-used.used in
    goes_on_after f c.args.state.now k (interface_key o) c.args.near.now c.args.steps.now.items c.push_before.new.steps.items c.uses_step-again.result (Uses o 0) c.in_ok-push_before.ensures c.uses_step-again.ensures.key c.uses_step-again.ensures.near refl refl
    (use_walk f k c.index-interface.result.now.uses.entries c.args.next o (within_uses f c.args.id x c.index-interface.ensures.entry) c.in_ok-used.ensures.used) c.requires.near

pub take_new_exports-requires-clause-near : goal.take_new_exports-requires-clause-near
take_new_exports-requires-clause-near c = IsNear-none c.args.state.now

pub take_new_exports-requires-clause-new : goal.take_new_exports-requires-clause-new
take_new_exports-requires-clause-new c = sym c.interface.ensures ∙ absent_of interface_key c.interface.result (sym c.is_some.ensures ∙ c.if-is_some.false)

pub returns-then-is_none-clause-taken : goal.returns-then-is_none-clause-taken
returns-then-is_none-clause-taken c = whatever_near c.args.types.now c.args.state.now c.take_new_exports.new.state (interface_key c.args.id) (near_keys c.args.near.now) c.take_new_exports.result c.take_new_exports.ensures.taken

pub returns-then-is_none-clause-steps : goal.returns-then-is_none-clause-steps
returns-then-is_none-clause-steps c = ok_then c.take_new_exports.result c.take_new_exports.ensures.steps (next_apart c.args.types.now c.take_new_exports.new.state (interface_key c.args.id) c.args.near.now c.args.steps.now.items c.take_new_exports.new.steps.items)

pub returns-clause-taken : goal.returns-clause-taken
returns-clause-taken c = Takes-none c.args.types.now c.args.state.now _ _ (λ s. Unit {0}) c.requires.state tt

pub returns-clause-members : goal.returns-clause-members
returns-clause-members c = λ taken wit has all. TakesMembers-none c.args.types.now c.args.state.now (IsReachedFrom c.args.types.now (interface_key c.args.id)) taken has

pub returns-clause-steps : goal.returns-clause-steps
returns-clause-steps c =
    let a = c.args.state.now in
    goes_on_next c.args.types.now a (interface_key c.args.id) c.args.near.now c.in_ok-nearest.nearest c.args.steps.now.items c.push_step.new.steps.items c.alike_step.result c.in_ok-push_step.ensures c.alike_step.ensures.key c.alike_step.ensures.near c.in_ok-nearest.ensures.stands
    (λ at all by. near_nearest at a c.args.near.now c.in_ok-nearest.nearest c.requires.state.kept c.in_ok-nearest.ensures.nearest all by)
