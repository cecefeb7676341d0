use Rattle.std.proofs.Common.{[], false, refl, ap, length, ◌∙◌}
use Rattle.std.specs.Prelude.{List}
use Rattle.wac_checker.specs.Known.{pairs_of}
use Rattle.wac_checker_parts.specs.declared.parts.PairPart.{PairPart}
use Rattle.wac_checker_parts.proofs.CountLemmas.{pairs_bounded}
use Rattle.wac_checker.proofs.WalkLemmas.{asked_answer, knows_nothing, named_none, named_pair, named_stands, named_told}
use Rattle.wac_checker.proofs.checker.pair_fits.Goals as goal

pub returns-in_default-clause-answer : goal.returns-in_default-clause-answer
returns-in_default-clause-answer c = λ may. named_none c.args.sides.now.left.now c.args.sides.now.right.now false 0 c.args.asked.now.0 c.args.asked.now.1 [] c.args.walk.now.parts.items c.requires.named (ap (λ (ms : List PairPart). length ms) c.in_default.ensures.none)

pub compare-found-requires-clause-stands : goal.compare-found-requires-clause-stands
compare-found-requires-clause-stands c =
    let of = named_pair c.args.sides.now.left.now c.args.sides.now.right.now false 0 c.args.asked.now.0 c.args.asked.now.1 [] c.args.walk.now.parts.items c.pop.new.self.items c.in-Some.part refl refl c.requires.named c.in-Some.ensures.items in
    named_stands c.args.sides.now.left.now c.args.sides.now.right.now c.args.asked.now.0 c.args.asked.now.1 c.in-Some.part.pair of.1 of.2

pub compare-found-requires-clause-none : goal.compare-found-requires-clause-none
compare-found-requires-clause-none c = (named_pair c.args.sides.now.left.now c.args.sides.now.right.now false 0 c.args.asked.now.0 c.args.asked.now.1 [] c.args.walk.now.parts.items c.pop.new.self.items c.in-Some.part refl refl c.requires.named c.in-Some.ensures.items).0

pub compare-found-requires-clause-truly : goal.compare-found-requires-clause-truly
compare-found-requires-clause-truly c = knows_nothing c.args.sides.now.left.now c.args.sides.now.right.now _ c.new.ensures c.new-2.ensures

pub returns-clause-answer : goal.returns-clause-answer
returns-clause-answer c =
    let of = named_pair c.args.sides.now.left.now c.args.sides.now.right.now false 0 c.args.asked.now.0 c.args.asked.now.1 [] c.args.walk.now.parts.items c.pop.new.self.items c.in-Some.part refl refl c.requires.named c.in-Some.ensures.items in
    asked_answer c.args.cache.now.keys c.args.sides.now.left.now c.args.sides.now.right.now c.args.asked.now.0 c.args.asked.now.1 c.in-Some.part.pair of.1 of.2 c.compare-found.new.self c.compare-found.new.walk c.compare-found.ensures.asked (ap pairs_of c.compare-found.ensures.unfit ∙ c.new-2.ensures) c.compare-found.result c.compare-found.ensures.answer

pub returns-clause-opened : goal.returns-clause-opened
returns-clause-opened c = rw c.len-history.ensures (pairs_bounded c.args.sides.now.left.now c.args.sides.now.right.now (pairs_of c.compare-found.new.self.known) c.compare-found.ensures.pairs)

pub is_believed-requires : goal.is_believed-requires
is_believed-requires c =
    let of = named_pair c.args.sides.now.left.now c.args.sides.now.right.now false 0 c.args.asked.now.0 c.args.asked.now.1 [] c.args.walk.now.parts.items c.pop.new.self.items c.in-Some.part refl refl c.requires.named c.in-Some.ensures.items in
    named_stands c.args.sides.now.left.now c.args.sides.now.right.now c.args.asked.now.0 c.args.asked.now.1 c.in-Some.part.pair of.1 of.2

pub returns-then-is_believed-clause-answer : goal.returns-then-is_believed-clause-answer
returns-then-is_believed-clause-answer c =
    let of = named_pair c.args.sides.now.left.now c.args.sides.now.right.now false 0 c.args.asked.now.0 c.args.asked.now.1 [] c.args.walk.now.parts.items c.pop.new.self.items c.in-Some.part refl refl c.requires.named c.in-Some.ensures.items in
    named_told c.args.sides.now.left.now c.args.sides.now.right.now c.args.asked.now.0 c.args.asked.now.1 c.in-Some.part.pair of.1 of.2 c.args.cache.now.keys (c.is_believed.ensures c.if-is_believed.true)
