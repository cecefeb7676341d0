use Rattle.std.proofs.Common.{◌≡◌, refl, subst, None}
use Rattle.wac_component.specs.Key.{interface_sort, resource_sort, resource_key}
use Rattle.wac_component.specs.Open.{OpenReaches}
use Rattle.wac_aggregator_taking.specs.Steps.{IsReachedFrom}
use Rattle.wac_aggregator_taking.specs.declared.steps.TakeStep.TheVariants.{Resource}
use Rattle.wac_aggregator_taking.proofs.Alike.{IsNear-none}
use Rattle.wac_aggregator_taking.proofs.Made.{resource_has}
use Rattle.wac_aggregator_taking.proofs.Members.{TakesMembers-none}
use Rattle.wac_aggregator_taking.proofs.StepAnswers.{made_members, source_walk}
use Rattle.wac_aggregator_taking.proofs.StepLemmas.{goes_on_after, next_none, on_ok}
use Rattle.wac_aggregator_taking.proofs.TakeLemmas.{Takes-none}
use Rattle.wac_aggregator_taking.proofs.entries.take_source.Goals as goal

pub make_resource-requires-clause-parts : goal.make_resource-requires-clause-parts
make_resource-requires-clause-parts c = resource_has c.args.types.now c.args.state.now c.sound.ensures c.requires.state c.args.id c.requires.source c.requires.owner c.in-None.ensures

pub make_resource-requires-clause-owner : goal.make_resource-requires-clause-owner
make_resource-requires-clause-owner c = c.requires.owner.1.imported

pub returns-in_ok-push_before-in-Some-clause-taken : goal.returns-in_ok-push_before-in-Some-clause-taken
returns-in_ok-push_before-in-Some-clause-taken c = Takes-none c.args.types.now c.args.state.now _ _ (λ s. Unit {0}) c.requires.state tt

pub returns-in_ok-push_before-in-Some-clause-members : goal.returns-in_ok-push_before-in-Some-clause-members
returns-in_ok-push_before-in-Some-clause-members c = λ taken wit has all. TakesMembers-none c.args.types.now c.args.state.now (IsReachedFrom c.args.types.now (resource_key c.args.id)) taken has

pub returns-in_ok-push_before-in-Some-clause-steps : goal.returns-in_ok-push_before-in-Some-clause-steps
returns-in_ok-push_before-in-Some-clause-steps c =
    let f = c.args.types.now in
    let k = resource_key c.args.id in
    let is = c.in-Some.ensures in
    let w : OpenReaches f k (resource_key c.in-Some.source) = subst (λ r. OpenReaches f k (resource_key r)) is.2 (source_walk f c.args.id is.0 is.1) in
    goes_on_after f c.args.state.now k (resource_key c.in-Some.source) None c.args.steps.now.items c.push_before.new.steps.items (Resource c.args.id) (Resource c.in-Some.source) c.in_ok-push_before-in-Some.ensures refl refl refl refl w (IsNear-none c.args.state.now)

pub returns-in-None-clause-members : goal.returns-in-None-clause-members
returns-in-None-clause-members c =
    let f = c.args.types.now in
    let a = c.args.state.now in
    made_members f a c.make_resource.new.state (resource_key c.args.id) c.make_resource.result c.sound.ensures c.requires.state c.requires.source (λ e. let no : resource_sort ≡ interface_sort = e in cc)
    (resource_has f a c.sound.ensures c.requires.state c.args.id c.requires.source c.requires.owner c.in-None.ensures) c.make_resource.ensures

pub returns-in-None-clause-steps : goal.returns-in-None-clause-steps
returns-in-None-clause-steps c = on_ok c.make_resource.result (next_none c.args.types.now c.make_resource.new.state (resource_key c.args.id) None c.args.steps.now.items)
