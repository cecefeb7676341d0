-- One byte on, in each of the cases.
use Rattle.std.proofs.Common.{inl, inr, arith}
use Rattle.wac_wit_syntax.proofs.Closing.{closes, closing_start, opens, others}
use Rattle.wac_wit_syntax.proofs.scanning.comment_end.Goals as goal
use Rattle.wac_wit_syntax.proofs.scanning.comment_end.Goals.{then-before-eq47+then-byte-eq42, else-before-eq47+then-before-eq42+then-byte-eq47+else-depth-eq1, else-before-eq47-via-then-before-eq47+else-byte-eq42, else-before-eq47-via-else-before-eq47, else-before-eq47+else-before-eq42, else-before-eq42-via-then-before-eq42+else-byte-eq47, else-before-eq42-via-else-before-eq42}

pub loop-at-init : goal.loop-at-init
loop-at-init c = record { opened = omega arith; few = omega arith; left = λ h. closing_start 1 c.args.from c.args.bytes.now }

pub loop-at-preserved : goal.loop-at-preserved
loop-at-preserved c =
    elim c.if-before-eq47.branch [
      | then-before-eq47+then-byte-eq42 w ↦ record {
        opened = omega arith;
        few = omega arith;
        left = λ h. opens _ _ c.args.bytes.now _ _ _ _ (omega arith) w.if-before-eq47.true w.if-byte-eq42.true w.depth-is w.before-is (c.loop-at.invariant.left h);
      }
      | else-before-eq47+then-before-eq42+then-byte-eq47+else-depth-eq1 w ↦ record {
        opened = omega arith;
        few = omega arith;
        left = λ h. closes _ _ c.args.bytes.now _ _ _ _ (omega arith) w.if-before-eq42.true w.if-byte-eq47.true w.if-depth-eq1.false w.depth-is w.before-is (c.loop-at.invariant.left h);
      }
      | else-before-eq47+else-before-eq42 w ↦ record {
        opened = omega arith;
        few = omega arith;
        left = λ h. others _ _ c.args.bytes.now _ _ _ _ (omega arith)
            (elim w.else-before-eq47.branch [ else-before-eq47-via-then-before-eq47+else-byte-eq42 v ↦ inr v.if-byte-eq42.false | else-before-eq47-via-else-before-eq47 v ↦ inl v.if-before-eq47.false ])
            (elim w.else-before-eq42.branch [ else-before-eq42-via-then-before-eq42+else-byte-eq47 v ↦ inr v.if-byte-eq47.false | else-before-eq42-via-else-before-eq42 v ↦ inl v.if-before-eq42.false ])
            w.depth-is w.before-is (c.loop-at.invariant.left h);
      }
    ]
