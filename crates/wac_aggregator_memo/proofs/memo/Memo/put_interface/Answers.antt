use Rattle.std.proofs.Common.{inl, inr, refl}
use Rattle.wac_component.specs.Key.{interface_sort}
use Rattle.wac_aggregator_memo.proofs.MemoLemmas.{each_sort, put_adds}
use Rattle.wac_aggregator_memo.proofs.memo.Memo.put_interface.Goals as goal

pub returns : goal.returns
returns c = λ new. put_adds c.args.self.now (record c.args.self.now { interfaces = c.insert.new.self }) interface_sort c.args.id c.args.own (each_sort _ (inr refl) (inr refl) (inr refl) (inl refl) (inr refl) (inr refl)) c.in_ok-insert.ensures.entries new
