-- A byte on: a line ends, or goes on.
use Rattle.std.proofs.Common.{arith}
use Rattle.wac_wit_syntax.proofs.Places.{place_column_at, place_line_at}
use Rattle.wac_wit_syntax.proofs.positions.position_of.Goals as goal
use Rattle.wac_wit_syntax.proofs.positions.position_of.Goals.{then-byte-eq10, else-byte-eq10}

pub loop-byte-preserved : goal.loop-byte-preserved
loop-byte-preserved c =
    elim c.if-byte-eq10.branch [
      | then-byte-eq10 w ↦ record {
        place = place_line_at _ _ _ _ _ _ (omega arith) w.if-byte-eq10.true w.line-is w.column-is c.loop-byte.invariant.place;
        low_line = omega arith;
        low_column = omega arith;
      }
      | else-byte-eq10 w ↦ record {
        place = place_column_at _ _ _ _ _ _ (omega arith) w.if-byte-eq10.false w.line-is w.column-is c.loop-byte.invariant.place;
        low_line = omega arith;
        low_column = omega arith;
      }
    ]
