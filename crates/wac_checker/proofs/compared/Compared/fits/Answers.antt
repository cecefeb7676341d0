use Rattle.std.proofs.Common.{false, refl, ap}
use Rattle.wac_checker_parts.specs.PartLists.{PartLists}
use Rattle.wac_checker.proofs.WalkLemmas.{answer_named, named_pair}
use Rattle.wac_checker.proofs.compared.Compared.fits.Goals as goal

pub returns-clause-answer : goal.returns-clause-answer
returns-clause-answer c =
    let none = ap (λ (p : PartLists). p.items) c.new-walk.ensures.parts in
    let of = (named_pair c.args.at.now c.args.bt.now false 0 c.args.a c.args.b c.new-walk.result.parts.items c.name_items.new.parts.items c.pop.new.self.items c.in-Some.part refl none (rw c.if-not-branch.false at c.in_ok-name_items.ensures.listed) c.in-Some.ensures.items) in
    answer_named c.args.at.now c.args.bt.now c.args.a c.args.b c.in-Some.part.pair of.1 of.2 c.answer.result c.answer.ensures.answer
