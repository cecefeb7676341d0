use Rattle.std.proofs.Common.{Ok, ◌≡◌, length}
use Rattle.wac_model.specs.ValueTree.{record_of}
use Rattle.wac_component.specs.Content.{names, types_of}
use Rattle.wac_checker_parts.specs.Content.{composed_side}
use Rattle.wac_checker_parts.specs.Listing.{IsTurnTo, members_height}
use Rattle.wac_checker_parts.proofs.sides.Sides.list_record.Given as goal

abbrev pub invariant-loop-i : goal.invariant-loop-i
invariant-loop-i l = record {
  count : length l.a.entries ≡ length l.b.entries;
  turn : IsTurnTo l.self.left.now l.self.right.now l.self.swapped (composed_side l.self.left.now (record_of (names l.a.entries)) (types_of l.a.entries)) (composed_side l.self.right.now (record_of (names l.b.entries)) (types_of l.b.entries)) (members_height l.self.left.now (types_of l.a.entries)) (members_height l.self.right.now (types_of l.b.entries)) l.i l.parts.items (Ok tt);
  kept : l.parts.before ≡ l.initial.parts.before;
}
