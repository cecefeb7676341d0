use Rattle.std.proofs.Common.{map}
use Rattle.wac_aggregator_memo.specs.EntryOrder.{tasks_work}
use Rattle.wac_aggregator_memo.specs.Memo.{memo_of}
use Rattle.wac_component.specs.Naming.{key_of}
use Rattle.wac_aggregator_memo.proofs.Ordering.{Orders}
use Rattle.wac_aggregator_memo.proofs.order.parts_first.Given as goal

abbrev pub invariant-loop-task : goal.invariant-loop-task
invariant-loop-task l = Orders l.types (memo_of l.memo) (map key_of l.ids) (map key_of l.order.keys) l.tasks.items

abbrev pub decreases-loop-task : goal.decreases-loop-task
decreases-loop-task l = tasks_work l.types l.tasks.items
