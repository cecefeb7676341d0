use Rattle.std.proofs.Common.{◌∷◌, None}
use Rattle.wac_component.specs.Key.{next, func_key}
use Rattle.wac_aggregator_taking.proofs.Alike.{IsNear-none}
use Rattle.wac_aggregator_taking.proofs.StepAnswers.{next_opens, func_opens}
use Rattle.wac_aggregator_taking.proofs.StepLemmas.{members_grown, put_next, next_none}
use Rattle.wac_aggregator_taking.proofs.entries.take_func.Goals as goal

pub returns-then-branch-clause-members : goal.returns-then-branch-clause-members
returns-then-branch-clause-members c = members_grown c.args.types.now c.args.state.now c.is_func_ready.new.state (func_key c.args.id) (tt {0}) c.requires.state.kept c.in_ok-is_func_ready.ensures.taken.run c.in_ok-is_func_ready.ensures.grows

pub returns-then-branch-clause-steps : goal.returns-then-branch-clause-steps
returns-then-branch-clause-steps c = next_none c.args.types.now c.is_func_ready.new.state (func_key c.args.id) None c.args.steps.now.items

pub returns-clause-members : goal.returns-clause-members
returns-clause-members c = members_grown c.args.types.now c.args.state.now c.is_func_ready.new.state (func_key c.args.id) (tt {0}) c.requires.state.kept c.in_ok-is_func_ready.ensures.taken.run c.in_ok-is_func_ready.ensures.grows

pub returns-clause-steps : goal.returns-clause-steps
returns-clause-steps c =
    let f = c.args.types.now in
    let b = c.is_func_ready.new.state in
    let k = func_key c.args.id in
    put_next f b k None None (k ∷ next f k) c.args.steps.now.items c.put_parts.new.steps.items (next_opens f k (func_opens f c.args.id)) (IsNear-none b) (λ at all h. h) c.in_ok-put_parts.ensures
