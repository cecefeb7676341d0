use Rattle.std.proofs.Common.{◌≡◌, ◌++◌, None, map, ◌∙◌, sym, inl, inr}
use Rattle.wac_aggregator_memo.specs.EntryOrder.{HasOwnOr, backwards}
use Rattle.wac_component.specs.Key.{Stands}
use Rattle.wac_aggregator_memo.specs.Memo.{memo_of}
use Rattle.wac_component.specs.Naming.{key_of}
use Rattle.wac_aggregator_memo.specs.declared.order.Task.TheVariants.{Enter}
use Rattle.wac_aggregator_memo.proofs.Ordering.{Done-listed, Done-skipped, Done-entered, among_found, nothing_there}
use Rattle.wac_aggregator_memo.proofs.order.do_task.Goals.{else-not-has-via-then-not-has+else-not-contains, else-not-has-via-else-not-has}
use Rattle.wac_aggregator_memo.proofs.order.do_task.Goals as goal

pub returns-in_ok-insert-in-List : goal.returns-in_ok-insert-in-List
returns-in_ok-insert-in-List c = rw (c.in-List.is, c.in_ok-insert-in-List.ensures.keys) (Done-listed c.args.types.now (memo_of c.args.memo.now) c.in-List.id c.args.order.now.keys c.args.tasks.now.items)

pub returns-in_ok-push_ids-in-Enter : goal.returns-in_ok-push_ids-in-Enter
returns-in_ok-push_ids-in-Enter c =
    let stands : Stands c.args.types.now (key_of c.in-Enter.id) = rw c.in-Enter.is at c.requires in
    let put = c.in_ok-push_ids-in-Enter.ensures ∙ (λ i. (c.in_ok-push-in-Enter.ensures.items i) ++ map Enter (backwards (c.deref.ensures.value i))) in
    let none : memo_of c.args.memo.now (key_of c.in-Enter.id) ≡ None = nothing_there (memo_of c.args.memo.now (key_of c.in-Enter.id)) (sym c.has.ensures ∙ c.if-not-has.true) in
    rw c.in-Enter.is (Done-entered c.args.types.now (memo_of c.args.memo.now) c.sound.ensures c.in-Enter.id stands (map key_of c.args.order.now.keys) c.args.tasks.now.items c.in_ok-named-in-Enter.named.items c.push_ids.new.tasks.items none c.in_ok-named-in-Enter.ensures put)

pub returns-else-not-has : goal.returns-else-not-has
returns-else-not-has c =
    let stands : Stands c.args.types.now (key_of c.in-Enter.id) = rw c.in-Enter.is at c.requires in
    let had : HasOwnOr (memo_of c.args.memo.now) (map key_of c.args.order.now.keys) (key_of c.in-Enter.id) = elim c.else-not-has.branch [
      | else-not-has-via-then-not-has+else-not-contains w ↦ inr (among_found c.args.order.now.keys c.in-Enter.id (sym w.if-not-contains.ensures))
      | else-not-has-via-else-not-has w ↦ inl (sym c.has.ensures ∙ w.if-not-has.false)
    ] in
    rw c.in-Enter.is (Done-skipped c.args.types.now (memo_of c.args.memo.now) c.sound.ensures c.in-Enter.id stands (map key_of c.args.order.now.keys) c.args.tasks.now.items had)
