use Rattle.std.proofs.Common.{sym}
use Rattle.wac_wit_refusals.proofs.externs.is_renamed_by.Goals as goal

pub returns-then-is_renamed : goal.returns-then-is_renamed
returns-then-is_renamed c is of knows = (c.in-Some.of.now, c.in-Some.ensures c.args.items.now (c.loop-item.item-index, c.loop-item-test.true, sym c.item-item.is), c.if-is_renamed.ensures is of knows)
