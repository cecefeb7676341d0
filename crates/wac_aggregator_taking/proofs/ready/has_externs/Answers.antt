use Rattle.std.proofs.Common.{subst}
use Rattle.std.proofs.lemmas.Map.Iter.{iter_end}
use Rattle.std.specs.Map.Iter.{deref_pair}
use Rattle.wac_component.specs.Content.{named}
use Rattle.wac_aggregator_memo.specs.EntryOrder.{HasOwn}
use Rattle.wac_component.specs.Key.{Each, item_keys, named_keys}
use Rattle.wac_aggregator_memo.specs.Memo.{memo_of}
use Rattle.wac_aggregator_taking.proofs.ready.has_externs.Goals as goal

pub returns : goal.returns
returns c = λ yes.
    let all = iter_end deref_pair c.args.externs.now.entries c.loop-kind.yielded _ _ _ _ c.into_iter-kind-iterator.ensures.into_iter_gives.0 c.loop-kind.yielded_by c.in-None.is c.next.ensures.steps in
    subst (λ l. Each (HasOwn (memo_of c.args.taken.now)) (named_keys item_keys (named (λ v. v) l))) all.0 c.loop-kind.invariant
