use Rattle.std.proofs.Common.{◌≡◌, length, ap, arith}
use Rattle.std.proofs.Common.{List}
use Rattle.wac_checker.proofs.WalkLemmas.{begun}
use Rattle.wac_checker_parts.specs.declared.parts.PairPart.{PairPart}
use Rattle.wac_checker.proofs.walk.Walk.begin.Goals as goal

pub returns-then-differs-clause-begun : goal.returns-then-differs-clause-begun
returns-then-differs-clause-begun c = λ ps.
    let none = ap (λ (xs : List PairPart). length xs) c.requires.none in
    let first : c.len-first.result ≡ length c.args.self.now.parts.before = omega (arith, none, c.len-first.ensures) in
    begun c.args.sides.now.left.now c.args.sides.now.right.now c.args.part c.args.self.now.parts.before c.list_pair.new.parts.items c.is_some-differs.result c.requires.stands (rw c.is_some-differs.ensures c.in_ok-halt.ensures.listed) ps _ _ (rw c.in_ok-halt.ensures.kept at c.close.ensures.before) (λ i. record { part = c.args.part; first = first i; next = first i; differs = c.is_some-differs.result })

pub returns-else-differs-clause-begun : goal.returns-else-differs-clause-begun
returns-else-differs-clause-begun c = λ ps.
    let none = ap (λ (xs : List PairPart). length xs) c.requires.none in
    let first : c.len-first.result ≡ length c.args.self.now.parts.before = omega (arith, none, c.len-first.ensures) in
    begun c.args.sides.now.left.now c.args.sides.now.right.now c.args.part c.args.self.now.parts.before c.list_pair.new.parts.items c.is_some-differs.result c.requires.stands (rw c.is_some-differs.ensures c.in_ok-halt.ensures.listed) ps _ _ (rw c.in_ok-halt.ensures.kept at c.close.ensures.before) (λ i. record { part = c.args.part; first = first i; next = first i; differs = c.is_some-differs.result })
