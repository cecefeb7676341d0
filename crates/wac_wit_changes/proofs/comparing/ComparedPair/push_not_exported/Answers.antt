use Rattle.std.proofs.Common.{ap, ◌∙◌, arith}
use Rattle.std.proofs.lemmas.Iterator.Consumers.{YieldsList-from_first, YieldsList-end}
use Rattle.wac_types.specs.ReportParts.{missing, exports_left}
use Rattle.wac_wit_changes.proofs.comparing.ComparedPair.push_not_exported.Goals as goal

pub returns : goal.returns
returns c =
    let all = YieldsList-end (YieldsList-from_first (λ p. (p.0.now, p.1.now)) exports_left (missing c.args.report.now) (ap exports_left c.into_iter-name-iterator.ensures.into_iter_gives ∙ c.missing_exports-name-items.ensures.exports)) c.loop-name.yielded _ c.loop-name.yielded_by _ _ c.in-None.is c.next.ensures.steps in
    omega (arith, all.1, c.loop-name.invariant)
