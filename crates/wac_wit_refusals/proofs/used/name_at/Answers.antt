use Rattle.std.proofs.Common.{refl}
use Rattle.wac_wit_refusals_sites.proofs.Walks.{among_at}
use Rattle.wac_wit_refusals.proofs.used.name_at.Goals as goal

pub returns-then-is_at : goal.returns-then-is_at
returns-then-is_at c = (c.is_at.ensures c.if-is_at.true, c.rename-item.result, among_at c.args.names.now c.loop-rename.rename-index c.rename-item.result c.loop-rename-test.true c.rename-item.is, refl)
