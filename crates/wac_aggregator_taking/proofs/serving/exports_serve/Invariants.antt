use Rattle.std.proofs.Common.{map}
use Rattle.std.specs.Map.Iter.{deref_pair}
use Rattle.wac_component.specs.Content.{named}
use Rattle.wac_aggregator_memo.specs.Memo.{memo_of}
use Rattle.wac_aggregator_memo.specs.Renamed.{renamed_item, with_values}
use Rattle.wac_checker.specs.Compared.{KnowsTruly}
use Rattle.wac_merge.specs.Items.{extern_list}
use Rattle.wac_aggregator_taking.specs.Growing.{AreMetWith}
use Rattle.wac_aggregator_taking.proofs.serving.exports_serve.Given as goal

abbrev pub invariant-loop-name : goal.invariant-loop-name
invariant-loop-name l = record {
  truly : KnowsTruly l.state.types l.state.types l.compared;
  met : AreMetWith l.state.types l.state.types (extern_list l.existing) (with_values (renamed_item (memo_of l.state.taken)) (named (λ k. k) (map deref_pair l.yielded))) (extern_list l.existing);
}
