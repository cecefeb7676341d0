use Rattle.std.proofs.Common.{◌≡◌}
use Rattle.wac_aggregator_memo.specs.Memo.{memo_of}
use Rattle.wac_aggregator_memo.specs.Renamed.{renamed_value}
use Rattle.wac_component.proofs.Firsts.{with_firsts}
use Rattle.wac_aggregator_memo.proofs.memo.Memo.rename_values.Given as goal

abbrev pub invariant-loop-i : goal.invariant-loop-i
invariant-loop-i l = l.types.items ≡ with_firsts l.i (renamed_value (memo_of l.self)) l.initial.types.items
