use Rattle.std.proofs.Common.{subst}
use Rattle.wac_wit_refusals_types.specs.Handles.{NamesValueType, of_another, of_values}
use Rattle.wac_wit_refusals_sites.specs.Judging.{body_syntax}
use Rattle.wac_wit_scopes.specs.Scopes.{scope_syntax}
use Rattle.wac_wit_refusals_types.proofs.handles.step_of.Goals as goal

pub returns-then-is_value_def : goal.returns-then-is_value_def
returns-then-is_value_def c of known has named =
    let w = scope_syntax c.args.at.now.placed.scope in
    let b = body_syntax c.args.at.now.placed.body in
    subst (NamesValueType of w b) named (of_values w b c.args.ty.now has (c.is_value_def.ensures c.if-is_value_def.true))

pub returns-in-Some : goal.returns-in-Some
returns-in-Some c of known has named =
    let w = scope_syntax c.args.at.now.placed.scope in
    let b = body_syntax c.args.at.now.placed.body in
    record { known = known; back = λ h. subst (NamesValueType of w b) named (of_another w b c.args.ty.now c.in-Some.name.now has c.in-Some.ensures h) }
