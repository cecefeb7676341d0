use Rattle.std.proofs.lemmas.Result.{IfOk-weaker}
use Rattle.wac_bounds.proofs.Bounds.{meet_of_two}
use Rattle.wac_component.specs.Tree.{item_tree}
use Rattle.wac_merge.proofs.bounds.meet.Goals as goal

pub returns-clause-meet : goal.returns-clause-meet
returns-clause-meet c = IfOk-weaker c.bound_of.result _ _ (λ m h. meet_of_two (item_tree c.args.types.now c.args.a) (item_tree c.args.types.now c.args.b) _ h) c.bound_of.ensures.bound
