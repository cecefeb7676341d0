use Rattle.std.proofs.Common.{ap, ◌∙◌}
use Rattle.wac_component.specs.Content.{use_content}
use Rattle.wac_aggregator_memo.specs.Memo.{memo_of}
use Rattle.wac_aggregator_memo.specs.Renamed.{renamed_use, with_values}
use Rattle.wac_component.proofs.CloneLemmas.{named-clones}
use Rattle.wac_aggregator_memo.proofs.memo.Memo.renamed_uses.Goals as goal

pub returns : goal.returns
returns c = c.rename_uses.ensures ∙ ap (with_values (renamed_use (memo_of c.args.self.now))) (named-clones use_content (λ u v same. same) c.args.uses.now c.in_ok-renamed.renamed c.in_ok-renamed.ensures.cases)
