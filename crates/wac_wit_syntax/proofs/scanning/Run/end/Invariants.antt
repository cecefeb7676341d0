-- What is left of the run ends where the run does.
use Rattle.std.proofs.Common.{◌≡◌, ◌+◌, ◌≤◌, drop, length}
use Rattle.wac_wit_syntax.specs.Reading.{run_length}
use Rattle.wac_wit_syntax.proofs.scanning.Run.end.Given as goal

abbrev pub invariant-loop-at : goal.invariant-loop-at
invariant-loop-at l = l.from ≤ length l.bytes → l.at + run_length l.self (drop l.at l.bytes) ≡ l.from + run_length l.self (drop l.from l.bytes)
