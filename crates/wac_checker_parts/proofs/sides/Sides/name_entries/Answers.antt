use Rattle.std.proofs.Common.{◌≡◌, ◌==◌, ◌&&◌, refl, arith}
use Rattle.wac_checker_parts.specs.declared.parts.EntryPair.{EntryPair}
use Rattle.wac_checker_parts.proofs.ListingLemmas.{entries_put}
use Rattle.wac_checker_parts.proofs.sides.Sides.name_entries.Goals as goal
use Rattle.wac_checker_parts.proofs.sides.Sides.name_entries.Goals.{then-number, else-number}

pub returns-clause-named : goal.returns-clause-named
returns-clause-named c =
    let told : EntryPair = record { left = c.args.left; right = c.args.right; sort = c.args.sort; swapped = c.args.self.now.swapped } in
    let test : c.if-number.same ≡ (c.args.self.now.left.now.number == c.args.self.now.right.now.number && c.args.left == c.args.right) = elim c.if-number.branch [ then-number w ↦ grind arith | else-number w ↦ grind arith ] in
    entries_put c.args.self.now.left.now c.args.self.now.right.now c.args.index c.args.left c.args.right c.if-number.same told c.args.parts.now.items c.name.new.self.items c.name.result c.args.self.now.one test refl refl c.name.ensures.named
