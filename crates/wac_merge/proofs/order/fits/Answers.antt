use Rattle.std.proofs.Common.{refl}
use Rattle.wac_merge.proofs.MemoLemmas.{IsTrueMemo-compared}
use Rattle.wac_merge.proofs.order.fits.Goals as goal

pub returns-clause-memo : goal.returns-clause-memo
returns-clause-memo c = IsTrueMemo-compared c.args.types.now c.args.memo.now (record { alloc = c.args.memo.now.alloc; made = c.args.memo.now.made; refused = c.args.memo.now.refused; compared = _ }) refl refl c.fits.ensures.truly c.requires.memo
