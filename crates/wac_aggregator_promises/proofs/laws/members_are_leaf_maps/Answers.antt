use Rattle.wac_aggregator_promises.proofs.LeafMaps.{members_are_maps}
use Rattle.wac_aggregator_promises.proofs.laws.members_are_leaf_maps.Goals as goal

pub returns : goal.returns
returns c = members_are_maps
