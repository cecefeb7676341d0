use Rattle.std.proofs.Common.{sym}
use Rattle.wac_wit_refusals_types.proofs.carried.content_of.Goals as goal

pub returns-in-Some : goal.returns-in-Some
returns-in-Some c = (c.in-Some.ty, c.in-Some.is, sym c.deref.ensures)
