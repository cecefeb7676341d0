-- What is left, behind the byte before, ends where the comment does; no more comments are open than
-- there are bytes.
use Rattle.std.proofs.Common.{◌≡◌, ◌+◌, ◌≤◌, ◌∷◌, drop, length}
use Rattle.wac_wit_syntax.specs.Reading.{closing_length}
use Rattle.wac_wit_syntax.proofs.Closing.{behind}
use Rattle.wac_wit_syntax.proofs.scanning.comment_end.Given as goal

abbrev pub invariant-loop-at : goal.invariant-loop-at
invariant-loop-at l = record {
  opened : 1 ≤ l.depth;
  few : l.depth ≤ l.at + 1;
  left : l.from ≤ length l.bytes → behind l.at (closing_length l.depth (l.before ∷ drop l.at l.bytes)) ≡ behind (l.from + 1) (closing_length 1 (drop l.from l.bytes));
}
