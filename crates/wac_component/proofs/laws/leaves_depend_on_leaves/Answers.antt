use Rattle.wac_component.proofs.LeafTrees.{keeps-leaves}
use Rattle.wac_component.proofs.laws.leaves_depend_on_leaves.Goals as goal

pub returns : goal.returns
returns c = keeps-leaves
