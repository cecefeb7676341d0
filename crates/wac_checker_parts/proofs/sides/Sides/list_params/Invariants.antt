use Rattle.std.proofs.Common.{Ok, ◌≡◌, ◌+◌}
use Rattle.wac_model.specs.ItemTree.{Kind}
use Rattle.wac_component.specs.Content.{func_content}
use Rattle.wac_component.specs.Height.{keys_height}
use Rattle.wac_component.specs.Key.{func_keys}
use Rattle.wac_checker_parts.specs.Listing.{IsTurnTo, func_side}
use Rattle.wac_checker_parts.proofs.sides.Sides.list_params.Given as goal

abbrev pub invariant-loop-i : goal.invariant-loop-i
invariant-loop-i l = record {
  turn : (k : Kind) → IsTurnTo l.self.left.now l.self.right.now l.self.swapped (func_side k l.self.left.now (func_content l.a)) (func_side k l.self.right.now (func_content l.b)) (keys_height l.self.left.now (func_keys (func_content l.a)) + 1) (keys_height l.self.right.now (func_keys (func_content l.b)) + 1) l.i l.parts.items (Ok tt);
  kept : l.parts.before ≡ l.initial.parts.before;
}
