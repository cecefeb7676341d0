use Rattle.std.proofs.Common.{◌≤◌, ◌+◌, length}
use Rattle.wac_wit_changes.proofs.comparing.ComparedPair.push_not_exported.Given as goal

abbrev pub invariant-loop-name : goal.invariant-loop-name
invariant-loop-name l = length l.fn.problems.items + length l.yielded ≤ length l.problems.items
