use Rattle.std.proofs.Common.{◌≡◌, ◌-◌, ◌++◌, length, map, drop}
use Rattle.wac_aggregator_memo.specs.EntryOrder.{backwards}
use Rattle.wac_aggregator_memo.specs.declared.order.Task.TheVariants.{Enter}
use Rattle.wac_aggregator_memo.proofs.order.push_ids.Given as goal

abbrev pub invariant-loop-i : goal.invariant-loop-i
invariant-loop-i l = l.tasks.items ≡ l.initial.tasks.items ++ map Enter (backwards (drop (length l.ids - l.i) l.ids))
