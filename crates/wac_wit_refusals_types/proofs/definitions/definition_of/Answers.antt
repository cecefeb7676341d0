use Rattle.wac_wit_refusals_types.specs.Definitions.{defined_elsewhere}
use Rattle.wac_wit_refusals_types.specs.Following.{body_place}
use Rattle.wac_wit_refusals_sites.proofs.TypeFacts.{some_fact}
use Rattle.wac_wit_refusals_types.proofs.definitions.definition_of.Goals as goal

pub loop-step-preserved : goal.loop-step-preserved
loop-step-preserved c of knows d h =
    let used = some_fact _ _ _ c.in-Some-2.is c.in_ok-next.ensures of knows in
    c.loop-step.invariant of knows d (defined_elsewhere _ _ (body_place d.placed) _ _ d.ty.now.def used.uses h)

pub returns-in-Some : goal.returns-in-Some
returns-in-Some c of knows = c.loop-step.invariant of knows c.in-Some.site (some_fact _ _ _ c.in-Some.is c.in_ok-site.ensures of knows)
