use Rattle.std.proofs.Common.{None, subst}
use Rattle.wac_component.specs.Key.{module_key}
use Rattle.wac_aggregator_taking.specs.Steps.{MayStep}
use Rattle.wac_aggregator_taking.proofs.StepLemmas.{next_none, on_ok}
use Rattle.wac_aggregator_taking.proofs.steps.take_step.Goals as goal

pub take_defined-requires-clause-source : goal.take_defined-requires-clause-source
take_defined-requires-clause-source c = (subst (MayStep c.args.types.now c.args.state.now) c.in-Defined.is c.requires.step).0

pub returns-in-Defined-clause-taken : goal.returns-in-Defined-clause-taken
returns-in-Defined-clause-taken c = rw c.in-Defined.is c.take_defined.ensures.taken

pub returns-in-Defined-clause-members : goal.returns-in-Defined-clause-members
returns-in-Defined-clause-members c = rw c.in-Defined.is c.take_defined.ensures.members

pub returns-in-Defined-clause-steps : goal.returns-in-Defined-clause-steps
returns-in-Defined-clause-steps c = rw c.in-Defined.is c.take_defined.ensures.steps

pub take_resource-requires-clause-source : goal.take_resource-requires-clause-source
take_resource-requires-clause-source c = (subst (MayStep c.args.types.now c.args.state.now) c.in-Resource.is c.requires.step).0

pub returns-in-Resource-clause-taken : goal.returns-in-Resource-clause-taken
returns-in-Resource-clause-taken c = rw c.in-Resource.is c.take_resource.ensures.taken

pub returns-in-Resource-clause-members : goal.returns-in-Resource-clause-members
returns-in-Resource-clause-members c = rw c.in-Resource.is c.take_resource.ensures.members

pub returns-in-Resource-clause-steps : goal.returns-in-Resource-clause-steps
returns-in-Resource-clause-steps c = rw c.in-Resource.is c.take_resource.ensures.steps

pub take_func-requires-clause-source : goal.take_func-requires-clause-source
take_func-requires-clause-source c = (subst (MayStep c.args.types.now c.args.state.now) c.in-Func.is c.requires.step).0

pub returns-in-Func-clause-taken : goal.returns-in-Func-clause-taken
returns-in-Func-clause-taken c = rw c.in-Func.is c.take_func.ensures.taken

pub returns-in-Func-clause-members : goal.returns-in-Func-clause-members
returns-in-Func-clause-members c = rw c.in-Func.is c.take_func.ensures.members

pub returns-in-Func-clause-steps : goal.returns-in-Func-clause-steps
returns-in-Func-clause-steps c = rw c.in-Func.is c.take_func.ensures.steps

pub take_module-requires-clause-source : goal.take_module-requires-clause-source
take_module-requires-clause-source c = (subst (MayStep c.args.types.now c.args.state.now) c.in-Module.is c.requires.step).0

pub returns-in-Module-clause-taken : goal.returns-in-Module-clause-taken
returns-in-Module-clause-taken c = rw c.in-Module.is c.take_module.ensures.taken

pub returns-in-Module-clause-members : goal.returns-in-Module-clause-members
returns-in-Module-clause-members c = rw c.in-Module.is c.take_module.ensures.members

pub returns-in-Module-clause-steps : goal.returns-in-Module-clause-steps
returns-in-Module-clause-steps c = rw c.in-Module.is (on_ok c.take_module.result (next_none c.args.types.now c.take_module.new.state (module_key c.in-Module.id) None c.args.steps.now.items))

pub take_uses-requires-clause-source : goal.take_uses-requires-clause-source
take_uses-requires-clause-source c = (subst (MayStep c.args.types.now c.args.state.now) c.in-Uses.is c.requires.step).0

pub take_uses-requires-clause-near : goal.take_uses-requires-clause-near
take_uses-requires-clause-near c = (subst (MayStep c.args.types.now c.args.state.now) c.in-Uses.is c.requires.step).1

pub returns-in-Uses-clause-taken : goal.returns-in-Uses-clause-taken
returns-in-Uses-clause-taken c = rw c.in-Uses.is c.take_uses.ensures.taken

pub returns-in-Uses-clause-members : goal.returns-in-Uses-clause-members
returns-in-Uses-clause-members c = rw c.in-Uses.is c.take_uses.ensures.members

pub returns-in-Uses-clause-steps : goal.returns-in-Uses-clause-steps
returns-in-Uses-clause-steps c = rw c.in-Uses.is c.take_uses.ensures.steps

pub take_uses-requires-in-UsesBy-clause-source : goal.take_uses-requires-in-UsesBy-clause-source
take_uses-requires-in-UsesBy-clause-source c = (subst (MayStep c.args.types.now c.args.state.now) c.in-UsesBy.is c.requires.step).0

pub take_uses-requires-in-UsesBy-clause-near : goal.take_uses-requires-in-UsesBy-clause-near
take_uses-requires-in-UsesBy-clause-near c = (subst (MayStep c.args.types.now c.args.state.now) c.in-UsesBy.is c.requires.step).1

pub returns-in-UsesBy-clause-taken : goal.returns-in-UsesBy-clause-taken
returns-in-UsesBy-clause-taken c = rw c.in-UsesBy.is c.take_uses-in-UsesBy.ensures.taken

pub returns-in-UsesBy-clause-members : goal.returns-in-UsesBy-clause-members
returns-in-UsesBy-clause-members c = rw c.in-UsesBy.is c.take_uses-in-UsesBy.ensures.members

pub returns-in-UsesBy-clause-steps : goal.returns-in-UsesBy-clause-steps
returns-in-UsesBy-clause-steps c = rw c.in-UsesBy.is c.take_uses-in-UsesBy.ensures.steps

pub take_alike-requires-clause-source : goal.take_alike-requires-clause-source
take_alike-requires-clause-source c = (subst (MayStep c.args.types.now c.args.state.now) c.in-AlikeBy.is c.requires.step).0

pub take_alike-requires-clause-near : goal.take_alike-requires-clause-near
take_alike-requires-clause-near c = (subst (MayStep c.args.types.now c.args.state.now) c.in-AlikeBy.is c.requires.step).1

pub returns-in-AlikeBy-clause-taken : goal.returns-in-AlikeBy-clause-taken
returns-in-AlikeBy-clause-taken c = rw c.in-AlikeBy.is c.take_alike.ensures.taken

pub returns-in-AlikeBy-clause-members : goal.returns-in-AlikeBy-clause-members
returns-in-AlikeBy-clause-members c = rw c.in-AlikeBy.is c.take_alike.ensures.members

pub returns-in-AlikeBy-clause-steps : goal.returns-in-AlikeBy-clause-steps
returns-in-AlikeBy-clause-steps c = rw c.in-AlikeBy.is c.take_alike.ensures.steps

pub take_exports-requires-clause-source : goal.take_exports-requires-clause-source
take_exports-requires-clause-source c = (subst (MayStep c.args.types.now c.args.state.now) c.in-Exports.is c.requires.step).0

pub take_exports-requires-clause-near : goal.take_exports-requires-clause-near
take_exports-requires-clause-near c = (subst (MayStep c.args.types.now c.args.state.now) c.in-Exports.is c.requires.step).1

pub returns-in-Exports-clause-taken : goal.returns-in-Exports-clause-taken
returns-in-Exports-clause-taken c = rw c.in-Exports.is c.take_exports.ensures.taken

pub returns-in-Exports-clause-members : goal.returns-in-Exports-clause-members
returns-in-Exports-clause-members c = rw c.in-Exports.is c.take_exports.ensures.members

pub returns-in-Exports-clause-steps : goal.returns-in-Exports-clause-steps
returns-in-Exports-clause-steps c = rw c.in-Exports.is c.take_exports.ensures.steps

pub take_exports-requires-in-ExportsBy-clause-source : goal.take_exports-requires-in-ExportsBy-clause-source
take_exports-requires-in-ExportsBy-clause-source c = (subst (MayStep c.args.types.now c.args.state.now) c.in-ExportsBy.is c.requires.step).0

pub take_exports-requires-in-ExportsBy-clause-near : goal.take_exports-requires-in-ExportsBy-clause-near
take_exports-requires-in-ExportsBy-clause-near c = (subst (MayStep c.args.types.now c.args.state.now) c.in-ExportsBy.is c.requires.step).1

pub returns-in-ExportsBy-clause-taken : goal.returns-in-ExportsBy-clause-taken
returns-in-ExportsBy-clause-taken c = rw c.in-ExportsBy.is c.take_exports-in-ExportsBy.ensures.taken

pub returns-in-ExportsBy-clause-members : goal.returns-in-ExportsBy-clause-members
returns-in-ExportsBy-clause-members c = rw c.in-ExportsBy.is c.take_exports-in-ExportsBy.ensures.members

pub returns-in-ExportsBy-clause-steps : goal.returns-in-ExportsBy-clause-steps
returns-in-ExportsBy-clause-steps c = rw c.in-ExportsBy.is c.take_exports-in-ExportsBy.ensures.steps

pub take_world_uses-requires-clause-source : goal.take_world_uses-requires-clause-source
take_world_uses-requires-clause-source c = (subst (MayStep c.args.types.now c.args.state.now) c.in-WorldUses.is c.requires.step).0

pub returns-in-WorldUses-clause-taken : goal.returns-in-WorldUses-clause-taken
returns-in-WorldUses-clause-taken c = rw c.in-WorldUses.is c.take_world_uses.ensures.taken

pub returns-in-WorldUses-clause-members : goal.returns-in-WorldUses-clause-members
returns-in-WorldUses-clause-members c = rw c.in-WorldUses.is c.take_world_uses.ensures.members

pub returns-in-WorldUses-clause-steps : goal.returns-in-WorldUses-clause-steps
returns-in-WorldUses-clause-steps c = rw c.in-WorldUses.is c.take_world_uses.ensures.steps

pub take_world_exports-requires-clause-source : goal.take_world_exports-requires-clause-source
take_world_exports-requires-clause-source c = (subst (MayStep c.args.types.now c.args.state.now) c.in-WorldExports.is c.requires.step).0

pub returns-in-WorldExports-clause-taken : goal.returns-in-WorldExports-clause-taken
returns-in-WorldExports-clause-taken c = rw c.in-WorldExports.is c.take_world_exports.ensures.taken

pub returns-in-WorldExports-clause-members : goal.returns-in-WorldExports-clause-members
returns-in-WorldExports-clause-members c = rw c.in-WorldExports.is c.take_world_exports.ensures.members

pub returns-in-WorldExports-clause-steps : goal.returns-in-WorldExports-clause-steps
returns-in-WorldExports-clause-steps c = rw c.in-WorldExports.is c.take_world_exports.ensures.steps

pub take_owner-requires-clause-source : goal.take_owner-requires-clause-source
take_owner-requires-clause-source c = (subst (MayStep c.args.types.now c.args.state.now) c.in-Owner.is c.requires.step).0

pub returns-in-Owner-clause-taken : goal.returns-in-Owner-clause-taken
returns-in-Owner-clause-taken c = rw c.in-Owner.is c.take_owner.ensures.taken

pub returns-in-Owner-clause-members : goal.returns-in-Owner-clause-members
returns-in-Owner-clause-members c = rw c.in-Owner.is c.take_owner.ensures.members

pub returns-in-Owner-clause-steps : goal.returns-in-Owner-clause-steps
returns-in-Owner-clause-steps c = rw c.in-Owner.is c.take_owner.ensures.steps
