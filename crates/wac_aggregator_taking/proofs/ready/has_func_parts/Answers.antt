use Rattle.std.proofs.Common.{ap, sym, subst}
use Rattle.std.proofs.lemmas.Map.Iter.{iter_end}
use Rattle.std.specs.Map.Iter.{deref_pair}
use Rattle.wac_component.specs.Content.{func_content, named}
use Rattle.wac_aggregator_memo.specs.EntryOrder.{HasOwn}
use Rattle.wac_component.specs.Key.{Each, entry_keys, value_keys, named_keys, optional_keys}
use Rattle.wac_aggregator_memo.specs.Memo.{memo_of}
use Rattle.wac_component.proofs.Keys.{Each-append}
use Rattle.wac_component.proofs.Reading.{func_at}
use Rattle.wac_aggregator_taking.proofs.ready.has_func_parts.Goals as goal

pub returns-in-Some-result : goal.returns-in-Some-result
returns-in-Some-result c = λ yes.
    let P = HasOwn (memo_of c.args.taken.now) in
    let x = func_content c.index-func.result.now in
    let all = iter_end deref_pair c.index-func.result.now.params.entries c.loop-ty.yielded _ _ _ _ c.into_iter-ty-iterator.ensures.into_iter_gives.0 c.loop-ty.yielded_by c.in-None.is c.next.ensures.steps in
    let params = subst (λ l. Each P (named_keys value_keys (named (λ v. v) l))) all.0 c.loop-ty.invariant in
    let answer = subst (λ o. Each P (optional_keys value_keys o)) (sym c.in-Some-result.is) (c.has_value-in-Some-result.ensures yes) in
    subst (Each P) (sym (ap (optional_keys entry_keys) (func_at c.args.types.now c.args.id x c.index-func.ensures.entry))) (Each-append P (named_keys value_keys x.params) (optional_keys value_keys x.«result») params answer)

pub returns-in-None-result : goal.returns-in-None-result
returns-in-None-result c = λ yes.
    let P = HasOwn (memo_of c.args.taken.now) in
    let x = func_content c.index-func.result.now in
    let all = iter_end deref_pair c.index-func.result.now.params.entries c.loop-ty.yielded _ _ _ _ c.into_iter-ty-iterator.ensures.into_iter_gives.0 c.loop-ty.yielded_by c.in-None.is c.next.ensures.steps in
    let params = subst (λ l. Each P (named_keys value_keys (named (λ v. v) l))) all.0 c.loop-ty.invariant in
    let answer = subst (λ o. Each P (optional_keys value_keys o)) (sym c.in-None-result.is) tt in
    subst (Each P) (sym (ap (optional_keys entry_keys) (func_at c.args.types.now c.args.id x c.index-func.ensures.entry))) (Each-append P (named_keys value_keys x.params) (optional_keys value_keys x.«result») params answer)
