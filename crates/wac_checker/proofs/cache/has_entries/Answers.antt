use Rattle.wac_checker.proofs.BelievedLemmas.{among_items, among_types}
use Rattle.wac_checker.proofs.cache.has_entries.Goals as goal

pub returns-then-has_pair : goal.returns-then-has_pair
returns-then-has_pair c = λ yes. among_items c.args.cache.now.keys c.args.sides.now.left.now c.args.sides.now.right.now c.of-sides.result.left.now c.of-sides.result.right.now c.args.pair.now c.entry_item-a.result c.entry_item-b.result c.of-sides.ensures.left c.of-sides.ensures.right c.entry_item-a.ensures c.entry_item-b.ensures (c.has_pair.ensures.0 c.if-has_pair.true)

pub returns-then-has_types : goal.returns-then-has_types
returns-then-has_types c = λ yes. among_types c.args.cache.now.keys c.args.sides.now.left.now c.args.sides.now.right.now c.of-sides.result.left.now c.of-sides.result.right.now c.args.pair.now c.entry_item-a.result c.entry_item-b.result c.of-sides.ensures.left c.of-sides.ensures.right c.entry_item-a.ensures c.entry_item-b.ensures (rw (c.ty.ensures, c.ty-then-has_types.ensures) at c.has_pair-then-has_types.ensures.0 yes)
