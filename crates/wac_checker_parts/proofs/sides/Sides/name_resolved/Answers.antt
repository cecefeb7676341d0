use Rattle.wac_checker_parts.proofs.ListingLemmas.{values_put}
use Rattle.wac_checker_parts.proofs.sides.Sides.name_resolved.Goals as goal

pub returns-in-Defined-Defined-clause-listed : goal.returns-in-Defined-Defined-clause-listed
returns-in-Defined-Defined-clause-listed c = rw (c.in-Defined-Defined.is-0, c.in-Defined-Defined.is-1) (values_put c.args.self.now.left.now c.args.self.now.right.now c.args.self.now.swapped c.args.index c.in-Defined-Defined.x c.in-Defined-Defined.y c.args.parts.now.items c.name_entries.new.parts.items c.name_entries.result (rw c.in-Defined-Defined.is-0 at c.requires.left).0 (rw c.in-Defined-Defined.is-1 at c.requires.right).0 (rw c.in-Defined-Defined.is-0 at c.requires.left_resolved) (rw c.in-Defined-Defined.is-1 at c.requires.right_resolved) (rw (c.index.ensures, c.index-in-Defined-Defined.ensures) at c.name_entries.ensures.named))
