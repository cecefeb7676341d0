use Rattle.std.proofs.Common.{◌≡◌, ◌-◌, ◌++◌, take, [], ◌∷◌, map, ap, subst, ◌∙◌, arith}
use Rattle.std.proofs.lemmas.List.Sums.{sum_by-append, sum_by_push}
use Rattle.std.specs.Option.{option_to_list}
use Rattle.wac_aggregator_memo.specs.EntryOrder.{backwards, task_work, tasks_work}
use Rattle.wac_aggregator_memo.specs.Memo.{memo_of}
use Rattle.wac_component.specs.Naming.{key_of}
use Rattle.wac_aggregator_memo.specs.declared.order.Task.TheVariants.{Enter}
use Rattle.wac_aggregator_memo.proofs.Ordering.{Orders, Orders-start, Orders-stands, Orders-next, Orders-end}
use Rattle.wac_aggregator_memo.proofs.order.parts_first.Goals as goal

pub loop-task-init : goal.loop-task-init
loop-task-init c = rw c.new-order.ensures.empty (Orders-start c.args.types.now (memo_of c.args.memo.now) c.args.ids.now c.push_ids.new.tasks.items (c.in_ok-push_ids.ensures ∙ ap (λ ts. ts ++ map Enter (backwards c.args.ids.now)) c.new-tasks.ensures.items))

pub do_task-requires : goal.do_task-requires
do_task-requires c =
    let popped : c.loop-task.tasks.items ≡ c.pop.new.self.items ++ c.in-Some.task ∷ [] = c.pop.ensures.items ∙ ap (λ o. c.pop.new.self.items ++ option_to_list o) c.in-Some.is in
    let m = memo_of c.args.memo.now in
    let os = map key_of c.loop-task.order.keys in
    Orders-stands c.args.types.now m (map key_of c.args.ids.now) c.sound.ensures c.requires os c.pop.new.self.items c.in-Some.task (subst (Orders c.args.types.now m (map key_of c.args.ids.now) os) popped c.loop-task.invariant)

pub loop-task-smaller : goal.loop-task-smaller
loop-task-smaller c =
    let popped : c.loop-task.tasks.items ≡ c.pop.new.self.items ++ c.in-Some.task ∷ [] = c.pop.ensures.items ∙ ap (λ o. c.pop.new.self.items ++ option_to_list o) c.in-Some.is in
    let d = c.in_ok-do_task.ensures in
    omega (arith, d.less, ap (tasks_work c.args.types.now) d.put, sum_by-append (task_work c.args.types.now) c.pop.new.self.items d.more, ap (tasks_work c.args.types.now) popped, sum_by_push (task_work c.args.types.now) c.pop.new.self.items c.in-Some.task)

pub loop-task-preserved : goal.loop-task-preserved
loop-task-preserved c =
    let popped : c.loop-task.tasks.items ≡ c.pop.new.self.items ++ c.in-Some.task ∷ [] = c.pop.ensures.items ∙ ap (λ o. c.pop.new.self.items ++ option_to_list o) c.in-Some.is in
    let m = memo_of c.args.memo.now in
    let os = map key_of c.loop-task.order.keys in
    Orders-next c.args.types.now m (map key_of c.args.ids.now) c.sound.ensures c.requires os c.pop.new.self.items c.in-Some.task (subst (Orders c.args.types.now m (map key_of c.args.ids.now) os) popped c.loop-task.invariant) (map key_of c.do_task.new.order.keys) c.do_task.new.tasks.items c.in_ok-do_task.ensures

pub returns : goal.returns
returns c =
    let rest : c.pop.new.self.items ≡ [] = c.in_default.ensures.rest ∙ ap (λ n. take (n - 1) c.loop-task.tasks.items) c.in_default.ensures.cases.0 in
    let none : c.loop-task.tasks.items ≡ [] = c.in_default.ensures.items ∙ ap (λ xs. xs ++ []) rest in
    let m = memo_of c.args.memo.now in
    let os = map key_of c.loop-task.order.keys in
    Orders-end c.args.types.now m (map key_of c.args.ids.now) c.sound.ensures c.requires os (subst (Orders c.args.types.now m (map key_of c.args.ids.now) os) none c.loop-task.invariant)
