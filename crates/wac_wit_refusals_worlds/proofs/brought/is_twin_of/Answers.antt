use Rattle.std.proofs.Common.{refl}
use Rattle.wac_wit_scopes.proofs.PathFacts.{contains_at, read_at}
use Rattle.wac_wit_refusals_worlds.proofs.brought.is_twin_of.Goals as goal

pub returns-then-are_twins_by : goal.returns-then-are_twins_by
returns-then-are_twins_by c is among =
    let first = c.in-Some.first.now in
    let there = contains_at c.args.names.now c.args.number first (read_at c.args.names.now c.args.number first first c.in-Some.ensures.lookup.0 c.in-Some.ensures.lookup.1 refl) in
    record { one = first; among = there; other = c.args.name.now; other_among = among; are = c.are_twins_by.ensures c.if-are_twins_by.true }

pub returns-else-are_twins_by : goal.returns-else-are_twins_by
returns-else-are_twins_by c is among =
    let first = c.in-Some.first.now in
    let there = contains_at c.args.names.now c.args.number first (read_at c.args.names.now c.args.number first first c.in-Some.ensures.lookup.0 c.in-Some.ensures.lookup.1 refl) in
    record { one = c.args.name.now; among = among; other = first; other_among = there; are = c.are_twins_by-else-are_twins_by.ensures is }
