use Rattle.std.proofs.Common.{◌≡◌}
use Rattle.wac_component.specs.Content.{named}
use Rattle.wac_checker_parts.specs.Listing.{AreExternsOf, AreServedTo}
use Rattle.wac_checker_parts.proofs.sides.Sides.list_exports.Given as goal

abbrev pub invariant-loop-i : goal.invariant-loop-i
invariant-loop-i l = AreExternsOf l.self.left.now l.self.right.now l.self.swapped l.first (named (λ k. k) l.a.entries) (named (λ k. k) l.b.entries) l.initial.parts.items l.parts.items × AreServedTo l.self.left.now l.self.right.now l.self.swapped (named (λ k. k) l.a.entries) (named (λ k. k) l.b.entries) l.i l.parts.items × (l.parts.before ≡ l.initial.parts.before)
