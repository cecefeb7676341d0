use Rattle.std.proofs.Common.{None, refl, subst, sym, ◌∙◌, arith}
use Rattle.wac_component.specs.Entries.{owner_at}
use Rattle.wac_component.specs.Key.{resource_key, interface_key}
use Rattle.wac_aggregator_taking.specs.Steps.{IsReachedFrom, IsOwnerTold}
use Rattle.wac_aggregator_taking.specs.Takes.{state_of}
use Rattle.wac_aggregator_taking.specs.declared.steps.TakeStep.TheVariants.{Resource, Uses}
use Rattle.wac_aggregator_taking.proofs.Alike.{IsNear-none, absent_of}
use Rattle.wac_aggregator_taking.proofs.Members.{TakesMembers-none}
use Rattle.wac_aggregator_taking.proofs.StepAnswers.{owner_takes, owner_members, owner_walk, taken_after, members_after, absent_still}
use Rattle.wac_aggregator_taking.proofs.StepLemmas.{goes_on_after, next_none, members_unidentified, imports_grow}
use Rattle.wac_aggregator_taking.proofs.TakeLemmas.{Takes-none, MayTake-Takes}
use Rattle.wac_aggregator_taking.proofs.entries.take_resource.Goals as goal

pub returns-then-is_some-clause-taken : goal.returns-then-is_some-clause-taken
returns-then-is_some-clause-taken c = Takes-none c.args.types.now c.args.state.now _ _ (λ s. Unit {0}) c.requires.state tt

pub returns-then-is_some-clause-members : goal.returns-then-is_some-clause-members
returns-then-is_some-clause-members c = λ taken wit has all. TakesMembers-none c.args.types.now c.args.state.now (IsReachedFrom c.args.types.now (resource_key c.args.id)) taken has

pub returns-then-is_some-clause-steps : goal.returns-then-is_some-clause-steps
returns-then-is_some-clause-steps c = next_none c.args.types.now c.args.state.now (resource_key c.args.id) None c.args.steps.now.items

pub take_source-requires-clause-state : goal.take_source-requires-clause-state
take_source-requires-clause-state c = MayTake-Takes c.args.types.now c.args.state.now c.import_owner_of.new.state _ _ _ c.requires.state c.in-Ok.ensures.taken

pub take_source-requires-clause-owner : goal.take_source-requires-clause-owner
take_source-requires-clause-owner c = subst (λ x. IsOwnerTold c.args.types.now (owner_at c.args.types.now c.args.id) x (state_of c.import_owner_of.new.state)) c.in_default.is c.in-Ok.ensures.taken.holds

pub take_source-requires-clause-new : goal.take_source-requires-clause-new
take_source-requires-clause-new c = absent_still c.args.state.now c.import_owner_of.new.state (resource_key c.args.id) c.in-Ok.ensures.others (sym c.resource.ensures ∙ absent_of resource_key c.resource.result (sym c.is_some.ensures ∙ c.if-is_some.false))

pub returns-in_default-clause-taken : goal.returns-in_default-clause-taken
returns-in_default-clause-taken c = taken_after c.args.types.now c.args.state.now c.import_owner_of.new.state (resource_key c.args.id) c.take_source.new.state 0 _ (omega arith) c.requires.state c.in-Ok.ensures.taken c.take_source.result c.take_source.ensures.taken

pub returns-in_default-clause-members : goal.returns-in_default-clause-members
returns-in_default-clause-members c = members_after c.args.types.now c.args.state.now c.import_owner_of.new.state (resource_key c.args.id) c.take_source.new.state 0 _ (omega arith) c.requires.state c.in-Ok.ensures.taken c.take_source.result (imports_grow c.args.types.now c.args.state.now c.import_owner_of.new.state c.in-Ok.ensures.others) c.take_source.ensures.members

pub returns-clause-taken : goal.returns-clause-taken
returns-clause-taken c = owner_takes c.args.types.now c.args.state.now c.import_owner_of.new.state c.args.id c.in-Ok.told c.requires.state c.in-Ok.ensures.taken c.in-Ok.ensures.others

pub returns-clause-members : goal.returns-clause-members
returns-clause-members c = λ taken wit has all. owner_members c.args.types.now c.args.state.now c.import_owner_of.new.state c.args.id c.in-Ok.told c.requires.state c.in-Ok.ensures.taken c.in-Ok.ensures.others taken has

pub returns-clause-steps : goal.returns-clause-steps
returns-clause-steps c =
    let f = c.args.types.now in
    let b = c.import_owner_of.new.state in
    let o = c.in-Some.owner in
    goes_on_after f b (resource_key c.args.id) (interface_key o) None c.args.steps.now.items c.push_before.new.steps.items (Resource c.args.id) (Uses o 0) c.in_ok-push_before.ensures refl refl refl refl (owner_walk f c.args.id o (subst (λ x. IsOwnerTold f (owner_at f c.args.id) x (state_of b)) c.in-Some.is c.in-Ok.ensures.taken.holds)) (IsNear-none b)

pub returns-in-Err-clause-members : goal.returns-in-Err-clause-members
returns-in-Err-clause-members c = members_unidentified c.args.types.now c.args.state.now c.import_owner_of.new.state (resource_key c.args.id) (Unit {0}) c.in-Err.refusal c.in-Err.ensures.unidentified
