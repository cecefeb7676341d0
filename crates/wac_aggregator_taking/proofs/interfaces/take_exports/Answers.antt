use Rattle.std.proofs.Common.{sym, ◌∙◌}
use Rattle.wac_component.specs.Key.{interface_key}
use Rattle.wac_aggregator_taking.specs.Steps.{IsReachedFrom}
use Rattle.wac_aggregator_taking.proofs.Alike.{absent_of}
use Rattle.wac_aggregator_taking.proofs.Members.{TakesMembers-none}
use Rattle.wac_aggregator_taking.proofs.StepLemmas.{next_none}
use Rattle.wac_aggregator_taking.proofs.TakeLemmas.{Takes-none}
use Rattle.wac_aggregator_taking.proofs.interfaces.take_exports.Goals as goal

pub returns-then-is_some-clause-taken : goal.returns-then-is_some-clause-taken
returns-then-is_some-clause-taken c = Takes-none c.args.types.now c.args.state.now _ _ (λ s. Unit {0}) c.requires.state tt

pub returns-then-is_some-clause-members : goal.returns-then-is_some-clause-members
returns-then-is_some-clause-members c = λ taken wit has all. TakesMembers-none c.args.types.now c.args.state.now (IsReachedFrom c.args.types.now (interface_key c.args.id)) taken has

pub returns-then-is_some-clause-steps : goal.returns-then-is_some-clause-steps
returns-then-is_some-clause-steps c = next_none c.args.types.now c.args.state.now (interface_key c.args.id) c.args.near.now c.args.steps.now.items

pub take_new_exports-requires-clause-new : goal.take_new_exports-requires-clause-new
take_new_exports-requires-clause-new c = sym c.interface.ensures ∙ absent_of interface_key c.interface.result (sym c.is_some.ensures ∙ c.if-is_some.false)
