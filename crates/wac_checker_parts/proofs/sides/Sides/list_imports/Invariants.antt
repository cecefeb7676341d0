use Rattle.std.proofs.Common.{◌≡◌, not, []}
use Rattle.wac_component.specs.Content.{named}
use Rattle.wac_checker_parts.specs.Listing.{AreExternsOf, AreServedTo}
use Rattle.wac_checker_parts.proofs.sides.Sides.list_imports.Given as goal

abbrev pub invariant-loop-i : goal.invariant-loop-i
invariant-loop-i l = AreExternsOf l.self.right.now l.self.left.now (not l.self.swapped) 0 (named (λ k. k) l.b.entries) (named (λ k. k) l.a.entries) [] l.parts.items × AreServedTo l.self.right.now l.self.left.now (not l.self.swapped) (named (λ k. k) l.b.entries) (named (λ k. k) l.a.entries) l.i l.parts.items × (l.parts.before ≡ l.initial.parts.before)
