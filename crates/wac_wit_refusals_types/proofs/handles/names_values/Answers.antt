use Rattle.std.proofs.Common.{subst}
use Rattle.wac_wit_refusals_types.specs.Following.{IsNameStep}
use Rattle.wac_wit_refusals_types.proofs.handles.names_values.Goals as goal

pub loop-step-init : goal.loop-step-init
loop-step-init c of knows known = record { known = known; back = λ h. h }

pub loop-step-preserved : goal.loop-step-preserved
loop-step-preserved c of knows known =
    let before = c.loop-step.invariant of knows known in
    let step = subst (IsNameStep of c.loop-step.at) c.in-Another.is (c.in_ok-name_step.ensures of knows before.known) in
    record { known = step.known; back = λ h. before.back (step.back h) }

pub returns-in-Values : goal.returns-in-Values
returns-in-Values c is of knows known =
    let before = c.loop-step.invariant of knows known in
    before.back (subst (IsNameStep of c.loop-step.at) c.in-Values.is (c.in_ok-name_step.ensures of knows before.known))
