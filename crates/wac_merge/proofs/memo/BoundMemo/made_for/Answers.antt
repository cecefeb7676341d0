use Rattle.std.proofs.Common.{sym, ◌∙◌}
use Rattle.wac_merge.specs.Memo.{made_of}
use Rattle.wac_merge.proofs.AskedLemmas.{found_made}
use Rattle.wac_merge.proofs.memo.BoundMemo.made_for.Goals as goal

pub returns : goal.returns
returns c = found_made c.args.asked.now (made_of c.args.self.now) c.copied.result (sym c.get.ensures.value ∙ sym c.copied.ensures)
