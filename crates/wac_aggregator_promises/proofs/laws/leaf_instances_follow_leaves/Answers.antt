use Rattle.wac_aggregator_promises.proofs.LeafInstances.{leaf_instances}
use Rattle.wac_aggregator_promises.proofs.laws.leaf_instances_follow_leaves.Goals as goal

pub returns : goal.returns
returns c = leaf_instances
