use Rattle.wac_aggregator_promises.proofs.SharedMembers.{refused_members}
use Rattle.wac_aggregator_promises.proofs.laws.refused_members_are_incompatible.Goals as goal

pub returns : goal.returns
returns c = refused_members
