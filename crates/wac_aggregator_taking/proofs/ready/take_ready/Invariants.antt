use Rattle.wac_component.specs.Content.{named, types_of}
use Rattle.wac_component.specs.Height.{keys_height}
use Rattle.wac_component.specs.Key.{item_keys, named_keys}
use Rattle.wac_aggregator_memo.specs.Memo.{memo_of}
use Rattle.wac_aggregator_taking.specs.Steps.{AreItemsNoted}
use Rattle.wac_aggregator_taking.specs.Takes.{Takes, OnlyGrows}
use Rattle.wac_aggregator_taking.proofs.ready.take_ready.Given as goal

abbrev pub invariant-loop-i : goal.invariant-loop-i
invariant-loop-i l = record {
  takes : Takes l.types l.initial.state l.state (keys_height l.types (named_keys item_keys (named (λ k. k) l.externs.entries))) (named_keys item_keys (named (λ k. k) l.externs.entries)) (λ t. Unit {0});
  grows : OnlyGrows l.types l.initial.state l.state;
  noted : AreItemsNoted (memo_of l.state.taken) (types_of l.externs.entries) l.fn.next l.i;
}
