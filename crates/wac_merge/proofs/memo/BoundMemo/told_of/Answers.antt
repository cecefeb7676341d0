use Rattle.std.proofs.Common.{◌≡◌, true, sym, ◌∙◌}
use Rattle.std.proofs.lemmas.Map.Views.{Contains-from_any}
use Rattle.wac_merge.specs.Memo.{refused_of}
use Rattle.wac_merge.proofs.AskedLemmas.{asked_exact}
use Rattle.wac_merge.proofs.memo.BoundMemo.told_of.Goals as goal

pub returns-in-None : goal.returns-in-None
returns-in-None c = let there : c.contains.result ≡ true = c.if-contains.true in Contains-from_any asked_exact c.args.asked.now (refused_of c.args.self.now) (sym c.contains.ensures ∙ there)
