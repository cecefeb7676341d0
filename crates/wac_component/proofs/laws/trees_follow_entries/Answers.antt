use Rattle.wac_component.proofs.Trees.{FollowsEntries-sound}
use Rattle.wac_component.proofs.laws.trees_follow_entries.Goals as goal

pub returns : goal.returns
returns c = FollowsEntries-sound
