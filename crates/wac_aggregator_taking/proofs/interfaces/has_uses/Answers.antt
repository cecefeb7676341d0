use Rattle.std.proofs.Common.{inl, inr, subst, sym, arith}
use Rattle.wac_component.specs.Content.{named, use_content}
use Rattle.wac_aggregator_memo.specs.Memo.{memo_of}
use Rattle.wac_aggregator_taking.specs.Steps.{IsUseNoted}
use Rattle.wac_aggregator_taking.proofs.Alike.{less_or_same}
use Rattle.wac_aggregator_taking.proofs.PartHeights.{length-named}
use Rattle.wac_aggregator_taking.proofs.StepAnswers.{found_within}
use Rattle.wac_aggregator_taking.proofs.interfaces.has_uses.Goals as goal

pub loop-i-preserved : goal.loop-i-preserved
loop-i-preserved c = λ j low. elim (less_or_same j c.loop-i.i low) [
  | inl before ↦ c.loop-i.invariant j before
  | inr now ↦ subst (IsUseNoted c.args.types.now (memo_of c.args.taken.now) (named use_content c.args.uses.now.entries)) (sym now) (c.has_use.ensures c.if-not-has_use.false)
]

pub returns : goal.returns
returns c = λ yes j name u at. c.loop-i.invariant j (omega (arith, found_within (named use_content c.args.uses.now.entries) j (name, u) at, length-named use_content c.args.uses.now.entries, c.loop-i-test.false, c.len-i-end.ensures.len)) name u at
