use Rattle.wac_merge.specs.Memo.{made_of}
use Rattle.wac_merge.specs.declared.memo.BoundPair.TheVariants.{Modules}
use Rattle.wac_merge.proofs.AskedLemmas.{still_new}
use Rattle.wac_merge.proofs.modules.module_of.Goals as goal

pub put-requires-clause-new : goal.put-requires-clause-new
put-requires-clause-new c = still_new (record { bound = c.args.bound; pair = Modules c.args.first c.args.second }) (made_of c.args.memo.now) (made_of c.reserve.new.self) c.in_ok-reserve.ensures.same.made (rw c.in_default.is at c.made_for.ensures)
