use Rattle.wac_aggregator_promises.proofs.MoreMembers.{members_of_more}
use Rattle.wac_aggregator_promises.proofs.laws.members_of_more.Goals as goal

pub returns : goal.returns
returns c = members_of_more
