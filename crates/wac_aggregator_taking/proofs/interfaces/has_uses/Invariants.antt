use Rattle.std.proofs.Common.{◌<◌, ℕ}
use Rattle.wac_component.specs.Content.{named, use_content}
use Rattle.wac_aggregator_memo.specs.Memo.{memo_of}
use Rattle.wac_aggregator_taking.specs.Steps.{IsUseNoted}
use Rattle.wac_aggregator_taking.proofs.interfaces.has_uses.Given as goal

abbrev pub invariant-loop-i : goal.invariant-loop-i
invariant-loop-i l = (j : ℕ) → j < l.i → IsUseNoted l.types (memo_of l.taken) (named use_content l.uses.entries) j
