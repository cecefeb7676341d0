use Rattle.std.proofs.lemmas.Result.{IfOk-weaker}
use Rattle.wac_bounds.proofs.Bounds.{join_of_two}
use Rattle.wac_component.specs.Tree.{item_tree}
use Rattle.wac_merge.proofs.bounds.join.Goals as goal

pub returns-clause-join : goal.returns-clause-join
returns-clause-join c = IfOk-weaker c.bound_of.result _ _ (λ m h. join_of_two (item_tree c.args.types.now c.args.a) (item_tree c.args.types.now c.args.b) _ h) c.bound_of.ensures.bound
