use Rattle.std.proofs.Common.{◌≡◌, ℕ, arith, inl, inr, subst, Some}
use Rattle.std.specs.Prelude.{slice_get}
use Rattle.std.proofs.Math.Nat.{eq-or-lt_of_le}
use Rattle.std.proofs.lemmas.Option.{slice_get_within}
use Rattle.wac_wit_validation.specs.declared.marks.ExternMark.TheVariants.{Found}
use Rattle.wac_wit_validation.proofs.validator.Validator.is_closed.Goals as goal

pub loop-index-preserved : goal.loop-index-preserved
loop-index-preserved c = λ n f within at. elim (eq-or-lt_of_le {n = n} {m = c.loop-index.index} (omega (arith, within))) [
  | inl is ↦ c.in_ok-is_closed_at.ensures c.if-not-branch.false f (subst (λ (k : ℕ). slice_get c.args.marks.now.marks.items k ≡ Some (Found f)) is at)
  | inr less ↦ c.loop-index.invariant n f less at
]

pub returns : goal.returns
returns c = λ is of knows i j marked uses. c.loop-index.invariant marked.place marked.mark (omega (arith, c.loop-index-test.false, slice_get_within c.args.marks.now.marks.items marked.place (Found marked.mark) marked.at, c.len-index-end.ensures)) marked.at of i j knows marked.is uses
