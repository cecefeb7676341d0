use Rattle.std.proofs.Common.{sym}
use Rattle.wac_aggregator_alike.proofs.owners.owned_among.Goals as goal

pub owner_of-requires : goal.owner_of-requires
owner_of-requires c = c.requires c.id-item.result (c.loop-id.id-index, c.loop-id-test.true, sym c.id-item.is)
