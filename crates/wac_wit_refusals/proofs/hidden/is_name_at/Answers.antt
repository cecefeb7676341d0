use Rattle.std.proofs.Common.{sym}
use Rattle.wac_wit_refusals.proofs.hidden.is_name_at.Goals as goal

pub returns-then-is_at : goal.returns-then-is_at
returns-then-is_at c is = (c.rename-item.result, (c.loop-rename.rename-index, c.loop-rename-test.true, sym c.rename-item.is), c.if-is_at.ensures is)
