-- The place of the byte that is next, which is no greater than the number of bytes before it.
use Rattle.std.proofs.Common.{◌≤◌, ◌+◌, take}
use Rattle.wac_wit_syntax.specs.Positions.{EndsAt}
use Rattle.wac_wit_syntax.proofs.positions.position_of.Given as goal

abbrev pub invariant-loop-byte : goal.invariant-loop-byte
invariant-loop-byte l = record {
  place : EndsAt (take l.byte-index l.before) l.line l.column;
  low_line : l.line ≤ l.byte-index + 1;
  low_column : l.column ≤ l.byte-index + 1;
}
