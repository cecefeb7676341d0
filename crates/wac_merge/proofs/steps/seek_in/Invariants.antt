use Rattle.std.proofs.Common.{◌≡◌}
use Rattle.wac_merge.specs.Memo.{made_of, IsTrueMemo}
use Rattle.wac_merge.proofs.steps.seek_in.Given as goal

abbrev pub invariant-loop-at : goal.invariant-loop-at
invariant-loop-at l = record { memo : IsTrueMemo l.types l.memo; made : made_of l.memo ≡ made_of l.initial.memo }
