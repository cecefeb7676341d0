use Rattle.std.proofs.Common.{Ok, ◌≡◌, length}
use Rattle.wac_component.specs.Content.{case_types}
use Rattle.wac_checker_parts.specs.Content.{variant_side}
use Rattle.wac_checker_parts.specs.Listing.{IsTurnTo, members_height}
use Rattle.wac_checker_parts.proofs.sides.Sides.list_cases.Given as goal

abbrev pub invariant-loop-i : goal.invariant-loop-i
invariant-loop-i l = record {
  count : length l.a.entries ≡ length l.b.entries;
  turn : IsTurnTo l.self.left.now l.self.right.now l.self.swapped (variant_side l.self.left.now l.a.entries) (variant_side l.self.right.now l.b.entries) (members_height l.self.left.now (case_types l.a.entries)) (members_height l.self.right.now (case_types l.b.entries)) l.i l.parts.items (Ok tt);
  kept : l.parts.before ≡ l.initial.parts.before;
}
