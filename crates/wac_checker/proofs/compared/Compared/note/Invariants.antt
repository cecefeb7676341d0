use Rattle.std.proofs.Common.{◌≡◌, ◌⊎◌, ◌<◌, ℕ, Some, slice_get}
use Rattle.std.specs.Prelude.{Contains}
use Rattle.wac_checker.specs.Known.{pairs_of}
use Rattle.wac_checker.specs.Walk.{IsOpen, kept_pair}
use Rattle.wac_checker_parts.specs.declared.parts.EntryPair.{EntryPair}
use Rattle.wac_checker.specs.declared.walk.WalkStep.{WalkStep}
use Rattle.wac_checker.proofs.compared.Compared.note.Given as goal

abbrev pub invariant-loop-i : goal.invariant-loop-i
invariant-loop-i l = record {
  known : pairs_of l.self.known ≡ pairs_of l.initial.self.known;
  kept : (p : EntryPair) → Contains (pairs_of l.initial.self.unfit) p → Contains (pairs_of l.self.unfit) p;
  only : (p : EntryPair) → Contains (pairs_of l.self.unfit) p → Contains (pairs_of l.initial.self.unfit) p ⊎ IsOpen l.sides.left.now l.sides.right.now l.steps p;
  added : (j : ℕ) (s : WalkStep) → j < l.i → slice_get l.steps j ≡ Some s → Contains (pairs_of l.self.unfit) (kept_pair l.sides.left.now l.sides.right.now s.part.pair);
}
