use Rattle.std.proofs.Common.{ap, ◌∙◌, arith}
use Rattle.std.proofs.lemmas.Iterator.Consumers.{YieldsList-from_first, YieldsList-end}
use Rattle.wac_types.specs.ReportParts.{not_in_target, names_left}
use Rattle.wac_wit_changes.proofs.comparing.ComparedPair.push_not_imported.Goals as goal

pub returns : goal.returns
returns c =
    let all = YieldsList-end (YieldsList-from_first (λ s. s.now) names_left (not_in_target c.args.report.now) (ap names_left c.into_iter-name-iterator.ensures.into_iter_gives ∙ c.imports_not_in_target-name-items.ensures.names)) c.loop-name.yielded _ c.loop-name.yielded_by _ _ c.in-None.is c.next.ensures.steps in
    omega (arith, all.1, c.loop-name.invariant)
