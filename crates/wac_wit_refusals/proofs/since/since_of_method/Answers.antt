use Rattle.std.proofs.Common.{sym}
use Rattle.wac_wit_refusals.proofs.since.since_of_method.Goals as goal

pub returns-in-Some : goal.returns-in-Some
returns-in-Some c = (c.method-item.result, (c.loop-method.method-index, c.loop-method-test.true, sym c.method-item.is), c.in-Some.ensures)
