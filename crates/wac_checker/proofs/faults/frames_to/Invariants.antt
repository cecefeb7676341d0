use Rattle.std.proofs.Common.{◌++◌, reverse, length}
use Rattle.wac_mismatch.specs.declared.check.SubtypeCheck.{SubtypeCheck}
use Rattle.wac_mismatch.specs.declared.fault.Fault.{Fault}
use Rattle.wac_checker.specs.Walk.{IsWalkPath, PathFrom}
use Rattle.wac_checker.proofs.faults.frames_to.Given as goal

abbrev pub invariant-loop-step : goal.invariant-loop-step
invariant-loop-step l = record {
  path : PathFrom l.sides.left.now l.sides.right.now l.fn.walk.asked (reverse l.walk.open.items) l.part;
  more : (c : SubtypeCheck) (g : Fault) → IsWalkPath l.sides.left.now l.sides.right.now c l.fn.part.pair l.below.items g → IsWalkPath l.sides.left.now l.sides.right.now c l.part.pair (reverse l.frames.items ++ l.below.items) g;
}

abbrev pub decreases-loop-step : goal.decreases-loop-step
decreases-loop-step l = length l.walk.open.items
