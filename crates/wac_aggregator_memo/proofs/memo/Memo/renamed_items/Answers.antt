use Rattle.std.proofs.Common.{ap, ◌∙◌}
use Rattle.wac_aggregator_memo.specs.Memo.{memo_of}
use Rattle.wac_aggregator_memo.specs.Renamed.{renamed_item, with_values}
use Rattle.wac_component.proofs.CloneLemmas.{named-clones}
use Rattle.wac_aggregator_memo.proofs.memo.Memo.renamed_items.Goals as goal

pub returns : goal.returns
returns c = c.rename_items.ensures ∙ ap (with_values (renamed_item (memo_of c.args.self.now))) (named-clones (λ k. k) (λ k l same. same) c.args.items.now c.in_ok-renamed.renamed c.in_ok-renamed.ensures.cases)
