use Rattle.std.proofs.Common.{◌≡◌, ◌<◌, inl, inr, false, get_or, length, Some, slice_get, refl, sym, ap, ◌∙◌, subst, arith}
use Rattle.std.specs.Prelude.{Contains}
use Rattle.std.proofs.lemmas.Option.{slice_get-get_or, slice_get_within}
use Rattle.wac_checker_parts.specs.declared.parts.EntryPair.{EntryPair}
use Rattle.wac_checker_parts.proofs.CountLemmas.{last_or_before}
use Rattle.wac_checker_parts.proofs.KnownLemmas.{element_at, other_pair, pair_exact, place_of_pair}
use Rattle.wac_checker_parts.specs.declared.parts.PairSort.TheVariants as sort
use Rattle.wac_checker.proofs.known.is_among.Goals as goal

abbrev none : EntryPair
none = record { left = 0; right = 0; sort = sort.Defined; swapped = false }

pub returns : goal.returns
returns c = (
  (λ h. absurd (cc (h))),
  (λ m. absurd (let at = place_of_pair c.args.pairs.now c.args.pair.now m in let below : at.0 < length c.args.pairs.now = slice_get_within c.args.pairs.now at.0 c.args.pair.now at.1 in c.loop-i.invariant at.0 (omega (arith, below, c.loop-i-test.false)) at.1)),
)

pub returns-then-eq : goal.returns-then-eq
returns-then-eq c = (
  (λ h. let one = pair_exact (get_or c.args.pairs.now c.loop-i.i none) c.args.pair.now (sym c.eq.ensures ∙ c.if-eq.true) in subst (λ (p : EntryPair). Contains c.args.pairs.now p) one (element_at c.args.pairs.now c.loop-i.i (get_or c.args.pairs.now c.loop-i.i none) (slice_get-get_or c.args.pairs.now c.loop-i.i none (omega arith)))),
  (λ m. refl),
)

pub loop-i-preserved : goal.loop-i-preserved
loop-i-preserved c = λ k b at. elim (last_or_before k c.loop-i.i (omega (arith, b))) [
  | inl e ↦ (
      let both : Some (get_or c.args.pairs.now c.loop-i.i none) ≡ Some c.args.pair.now = sym (slice_get-get_or c.args.pairs.now c.loop-i.i none (omega arith)) ∙ ap (slice_get c.args.pairs.now) (sym e) ∙ at in
      let one : (get_or c.args.pairs.now c.loop-i.i none) ≡ c.args.pair.now = cc in
      other_pair (get_or c.args.pairs.now c.loop-i.i none) c.args.pair.now c.eq.result c.eq.ensures c.if-eq.false one)
  | inr before ↦ c.loop-i.invariant k before at
]
