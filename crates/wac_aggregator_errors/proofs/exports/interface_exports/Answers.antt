use Rattle.std.proofs.lemmas.Result.{MatchResult-weaker}
use Rattle.wac_component.specs.Content.{interface_content}
use Rattle.wac_component.proofs.CloneLemmas.{named-clones}
use Rattle.wac_merge.specs.Items.{extern_list}
use Rattle.wac_aggregator_errors.proofs.Reading.{reads_interface}
use Rattle.wac_aggregator_errors.proofs.exports.interface_exports.Goals as goal

pub returns : goal.returns
returns c =
    MatchResult-weaker c.clone.result c.clone.ensures.cases
    (λ m cloned. reads_interface c.args.own.now c.args.id (interface_content c.index.result.now) (extern_list m) c.index.ensures.entry c.index.ensures.tree c.index.ensures.standing c.index.ensures.lower
    (named-clones (λ k. k) (λ k l e. e) c.index.result.now.exports m cloned))
    (λ e h. tt)
