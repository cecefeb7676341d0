use Rattle.std.proofs.Common.{◌∙◌}
use Rattle.wac_merge.specs.Memo.{made_of}
use Rattle.wac_merge.proofs.AskedLemmas.{put_made}
use Rattle.wac_merge.proofs.memo.BoundMemo.put.Goals as goal

pub returns-clause-made : goal.returns-clause-made
returns-clause-made c = c.in_ok-insert.ensures.entries ∙ put_made (record { bound = c.args.bound; pair = c.args.pair }) c.args.made (made_of c.args.self.now) c.requires.new
