use Rattle.std.proofs.Common.{Ok, ◌≡◌, length}
use Rattle.wac_model.specs.ValueTree.{tuple}
use Rattle.wac_checker_parts.specs.Content.{composed_side}
use Rattle.wac_checker_parts.specs.Listing.{IsTurnTo, members_height}
use Rattle.wac_checker_parts.proofs.sides.Sides.list_items.Given as goal

abbrev pub invariant-loop-i : goal.invariant-loop-i
invariant-loop-i l = record {
  count : length l.a ≡ length l.b;
  turn : IsTurnTo l.self.left.now l.self.right.now l.self.swapped (composed_side l.self.left.now tuple l.a) (composed_side l.self.right.now tuple l.b) (members_height l.self.left.now l.a) (members_height l.self.right.now l.b) l.i l.parts.items (Ok tt);
  kept : l.parts.before ≡ l.initial.parts.before;
}
