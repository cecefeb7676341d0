use Rattle.std.proofs.Common.{ap, ◌∙◌}
use Rattle.wac_component.specs.Content.{named}
use Rattle.wac_aggregator_memo.specs.Memo.{memo_of}
use Rattle.wac_aggregator_memo.specs.Renamed.{renamed_value, with_values}
use Rattle.wac_component.proofs.CloneLemmas.{named-clones}
use Rattle.wac_aggregator_memo.proofs.RenamedLemmas.{named-with}
use Rattle.wac_aggregator_memo.proofs.memo.Memo.renamed_fields.Goals as goal

pub returns : goal.returns
returns c =
    let h = renamed_value (memo_of c.args.self.now) in
    ap (named (λ t. t)) c.rename_fields.ensures ∙ named-with h c.in_ok-renamed.renamed.entries ∙ ap (with_values h) (named-clones (λ t. t) (λ t u same. same) c.args.fields.now c.in_ok-renamed.renamed c.in_ok-renamed.ensures.cases)
