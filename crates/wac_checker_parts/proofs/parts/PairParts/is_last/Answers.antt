use Rattle.std.proofs.Common.{◌-◌, false, length, get_or, sym, ◌∙◌, arith}
use Rattle.std.proofs.lemmas.Option.{slice_get-get_or}
use Rattle.wac_checker_parts.specs.declared.parts.PairPart.{PairPart}
use Rattle.wac_checker_parts.specs.declared.parts.PairSort.TheVariants as sort
use Rattle.wac_checker_parts.proofs.ListLemmas.{left_at}
use Rattle.wac_checker_parts.proofs.KnownLemmas.{pair_exact}
use Rattle.wac_checker_parts.proofs.parts.PairParts.is_last.Goals as goal

abbrev none : PairPart
none = record { pair = record { left = 0; right = 0; sort = sort.Defined; swapped = false }; index = 0 }

pub returns-then-self-list : goal.returns-then-self-list
returns-then-self-list c = λ h.
    let items = c.as_slice-list.result.now in
    let place = length items - 1 in
    let last : PairPart = get_or items place none in
    (last, rw (← c.self.view_is, ← c.as_slice-list.ensures) (left_at items c.self.inside.first place last (omega (arith, c.if-self-list.true)) (slice_get-get_or items place none (omega (arith, c.if-self-list.true)))), pair_exact last.pair c.args.pair.now (sym c.eq.ensures ∙ h))
