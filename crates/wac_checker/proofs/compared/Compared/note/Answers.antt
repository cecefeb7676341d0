use Rattle.std.proofs.Common.{◌≡◌, ◌<◌, ℕ, List, get_or, false, inl, inr, Some, length, slice_get, sym, ap, ◌∙◌, subst, arith}
use Rattle.std.specs.Prelude.{Contains}
use Rattle.std.proofs.lemmas.Option.{slice_get-get_or, slice_get_within}
use Rattle.wac_checker.specs.Known.{pairs_of}
use Rattle.wac_checker.specs.Walk.{kept_pair}
use Rattle.wac_checker.specs.declared.walk.WalkStep.{WalkStep}
use Rattle.wac_checker_parts.proofs.CountLemmas.{last_or_before}
use Rattle.wac_checker_parts.proofs.KnownLemmas.{element_at}
use Rattle.wac_checker.proofs.WalkLemmas.{add_cases, add_keeps, add_there, all_noted}
use Rattle.wac_checker_parts.specs.declared.parts.PairSort.TheVariants as sort
use Rattle.wac_checker.proofs.compared.Compared.note.Goals as goal

abbrev none : WalkStep
none = record { part = record { pair = record { left = 0; right = 0; sort = sort.Defined; swapped = false }; index = 0 }; first = 0; next = 0; differs = false }

abbrev step_at : List WalkStep → ℕ → WalkStep
step_at ss i = get_or ss i none

pub returns-in-Err : goal.returns-in-Err
returns-in-Err c = λ a k p. c.forget.ensures c.args.sides.now.left.now c.args.sides.now.right.now

pub loop-i-preserved : goal.loop-i-preserved
loop-i-preserved c = record {
  known = c.loop-i.invariant.known;
  kept = λ q m. add_keeps (pairs_of c.loop-i.self.unfit) (pairs_of c.add.new.self) c.kept_pair.result c.add.result c.add.ensures.there c.add.ensures.added c.add.ensures.same c.in_default.field-0 c.in_default.is q (c.loop-i.invariant.kept q m);
  only = λ q m. elim (add_cases (pairs_of c.loop-i.self.unfit) (pairs_of c.add.new.self) c.kept_pair.result c.add.result c.add.ensures.there c.add.ensures.added c.add.ensures.same c.in_default.field-0 c.in_default.is q m) [
    | inl o ↦ c.loop-i.invariant.only q o
    | inr e ↦ inr ((step_at c.args.steps.now c.loop-i.i), element_at c.args.steps.now c.loop-i.i (step_at c.args.steps.now c.loop-i.i) (slice_get-get_or c.args.steps.now c.loop-i.i none (omega arith)), sym c.kept_pair.ensures ∙ e)
  ];
  added = λ j s b at. elim (last_or_before j c.loop-i.i (omega (arith, b))) [
    | inl e ↦ (
        let both : Some (step_at c.args.steps.now c.loop-i.i) ≡ Some s = sym (slice_get-get_or c.args.steps.now c.loop-i.i none (omega arith)) ∙ ap (slice_get c.args.steps.now) (sym e) ∙ at in
        let one : (step_at c.args.steps.now c.loop-i.i) ≡ s = cc in
        subst (λ (x : WalkStep). Contains (pairs_of c.add.new.self) (kept_pair c.args.sides.now.left.now c.args.sides.now.right.now x.part.pair)) one (rw c.kept_pair.ensures at (add_there (pairs_of c.loop-i.self.unfit) (pairs_of c.add.new.self) c.kept_pair.result c.add.result c.add.ensures.there c.add.ensures.added c.add.ensures.same c.in_default.field-0 c.in_default.is)))
    | inr before ↦ add_keeps (pairs_of c.loop-i.self.unfit) (pairs_of c.add.new.self) c.kept_pair.result c.add.result c.add.ensures.there c.add.ensures.added c.add.ensures.same c.in_default.field-0 c.in_default.is (kept_pair c.args.sides.now.left.now c.args.sides.now.right.now s.part.pair) (c.loop-i.invariant.added j s before at)
  ];
}

pub returns : goal.returns
returns c = λ a h path. all_noted c.args.sides.now.left.now c.args.sides.now.right.now c.args.sides.now.one a c.args.self.now c.loop-i.self c.args.steps.now c.loop-i.invariant.known c.loop-i.invariant.kept c.loop-i.invariant.only (λ j s at. c.loop-i.invariant.added j s (let below : j < length c.args.steps.now = slice_get_within c.args.steps.now j s at in omega arith) at) h path
