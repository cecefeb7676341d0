use Rattle.std.proofs.Common.{inl, inr, refl}
use Rattle.wac_checker.proofs.WalkLemmas.{named_explained}
use Rattle.wac_checker.proofs.checker.compared_fits.Goals as goal

pub returns-then-not-branch-2-clause-answer : goal.returns-then-not-branch-2-clause-answer
returns-then-not-branch-2-clause-answer c =
    let told = rw c.if-not-branch-2.true at c.in_ok-pair_fits.ensures.answer in
    named_explained c.args.sides.now.left.now c.args.sides.now.right.now c.args.asked.now.0 c.args.asked.now.1 c.pair_fits.new.walk.asked told.0 told.1 c.args.check c.in_ok-refused_at.field-0 c.in_ok-refused_at.ensures

pub returns-clause-only : goal.returns-clause-only
returns-clause-only c = λ p m. elim (c.in_ok-add_pair.ensures.only p m) [ inl before ↦ inl before | inr e ↦ inr (e, refl) ]

pub refused_at-requires-clause-path : goal.refused_at-requires-clause-path
refused_at-requires-clause-path c = let told = rw c.if-not-branch-2.true at c.in_ok-pair_fits.ensures.answer in told.2

pub refused_at-requires-clause-apart : goal.refused_at-requires-clause-apart
refused_at-requires-clause-apart c = let told = rw c.if-not-branch-2.true at c.in_ok-pair_fits.ensures.answer in told.3
