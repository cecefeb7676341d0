use Rattle.std.proofs.Common.{sym}
use Rattle.wac_wit_refusals_worlds.proofs.cycles.stands_at.Goals as goal

pub returns-in-Some : goal.returns-in-Some
returns-in-Some c = λ is. (c.in-Some.name.now, sym c.in-Some.ensures, c.is_at.ensures is)
