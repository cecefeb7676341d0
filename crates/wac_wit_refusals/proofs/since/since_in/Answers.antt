use Rattle.std.proofs.Common.{sym}
use Rattle.wac_wit_refusals.proofs.since.since_in.Goals as goal

pub returns-in-Some : goal.returns-in-Some
returns-in-Some c = (c.item-item.result, (c.loop-item.item-index, c.loop-item-test.true, sym c.item-item.is), c.in-Some.ensures)
