use Rattle.std.proofs.Common.{map, take}
use Rattle.wac_aggregator_memo.specs.EntryOrder.{HasOwn}
use Rattle.wac_component.specs.Key.{Each}
use Rattle.wac_aggregator_memo.specs.Memo.{memo_of}
use Rattle.wac_component.specs.Naming.{key_of}
use Rattle.wac_aggregator_taking.proofs.steps.has_all.Given as goal

abbrev pub invariant-loop-i : goal.invariant-loop-i
invariant-loop-i l = Each (HasOwn (memo_of l.taken)) (take l.i (map key_of l.ids))
