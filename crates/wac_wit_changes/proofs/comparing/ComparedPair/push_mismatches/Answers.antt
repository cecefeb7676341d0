use Rattle.std.proofs.Common.{ap, ◌∙◌, arith}
use Rattle.std.proofs.lemmas.Iterator.Consumers.{YieldsList-from_first, YieldsList-end}
use Rattle.wac_types.specs.ReportParts.{mismatched, types_left}
use Rattle.wac_wit_changes.proofs.comparing.ComparedPair.push_mismatches.Goals as goal

pub returns : goal.returns
returns c =
    let all = YieldsList-end (YieldsList-from_first (λ p. (p.0.now, (p.1.now, p.2.now))) types_left (mismatched c.args.report.now) (ap types_left c.into_iter-name-iterator.ensures.into_iter_gives ∙ c.mismatched_types-name-items.ensures.types)) c.loop-name.yielded _ c.loop-name.yielded_by _ _ c.in-None.is c.next.ensures.steps in
    omega (arith, all.1, c.loop-name.invariant)
