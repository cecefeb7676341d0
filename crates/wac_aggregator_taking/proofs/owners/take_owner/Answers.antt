use Rattle.std.proofs.Common.{None, refl, subst}
use Rattle.wac_component.specs.Entries.{owner_at}
use Rattle.wac_component.specs.Key.{resource_key, interface_key}
use Rattle.wac_aggregator_taking.specs.Steps.{IsOwnerTold}
use Rattle.wac_aggregator_taking.specs.Takes.{state_of}
use Rattle.wac_aggregator_taking.specs.declared.steps.TakeStep.TheVariants.{Owner, Uses}
use Rattle.wac_aggregator_taking.proofs.Alike.{IsNear-none}
use Rattle.wac_aggregator_taking.proofs.StepAnswers.{owner_takes, owner_members, owner_walk}
use Rattle.wac_aggregator_taking.proofs.StepLemmas.{goes_on_after, next_none, members_unidentified}
use Rattle.wac_aggregator_taking.proofs.owners.take_owner.Goals as goal

pub returns-in_default-clause-taken : goal.returns-in_default-clause-taken
returns-in_default-clause-taken c = owner_takes c.args.types.now c.args.state.now c.import_owner_of.new.state c.args.id c.in-Ok.told c.requires.state c.in-Ok.ensures.taken c.in-Ok.ensures.others

pub returns-in_default-clause-members : goal.returns-in_default-clause-members
returns-in_default-clause-members c = λ taken wit has all. owner_members c.args.types.now c.args.state.now c.import_owner_of.new.state c.args.id c.in-Ok.told c.requires.state c.in-Ok.ensures.taken c.in-Ok.ensures.others taken has

pub returns-in_default-clause-steps : goal.returns-in_default-clause-steps
returns-in_default-clause-steps c = next_none c.args.types.now c.import_owner_of.new.state (resource_key c.args.id) None c.args.steps.now.items

pub returns-clause-taken : goal.returns-clause-taken
returns-clause-taken c = owner_takes c.args.types.now c.args.state.now c.import_owner_of.new.state c.args.id c.in-Ok.told c.requires.state c.in-Ok.ensures.taken c.in-Ok.ensures.others

pub returns-clause-members : goal.returns-clause-members
returns-clause-members c = λ taken wit has all. owner_members c.args.types.now c.args.state.now c.import_owner_of.new.state c.args.id c.in-Ok.told c.requires.state c.in-Ok.ensures.taken c.in-Ok.ensures.others taken has

pub returns-clause-steps : goal.returns-clause-steps
returns-clause-steps c =
    let f = c.args.types.now in
    let b = c.import_owner_of.new.state in
    let o = c.in-Some.owner in
    goes_on_after f b (resource_key c.args.id) (interface_key o) None c.args.steps.now.items c.push_before.new.steps.items (Owner c.args.id) (Uses o 0) c.in_ok-push_before.ensures refl refl refl refl (owner_walk f c.args.id o (subst (λ x. IsOwnerTold f (owner_at f c.args.id) x (state_of b)) c.in-Some.is c.in-Ok.ensures.taken.holds)) (IsNear-none b)

pub returns-in-Err-clause-members : goal.returns-in-Err-clause-members
returns-in-Err-clause-members c = members_unidentified c.args.types.now c.args.state.now c.import_owner_of.new.state (resource_key c.args.id) (Unit {0}) c.in-Err.refusal c.in-Err.ensures.unidentified
