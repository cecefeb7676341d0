use Rattle.std.proofs.Common.{sym}
use Rattle.wac_wit_refusals.proofs.hidden.has_type_there.Goals as goal

pub returns-then-is_type_there : goal.returns-then-is_type_there
returns-then-is_type_there c is of knows = (c.item-item.result, (c.loop-item.item-index, c.loop-item-test.true, sym c.item-item.is), c.if-is_type_there.ensures is of knows)
