use Rattle.std.proofs.Common.{subst}
use Rattle.std.proofs.lemmas.Option.{MatchOption-at_some}
use Rattle.wac_model.specs.Text.{Text}
use Rattle.wac_wit_refusals_types.specs.Definitions.{NamesDefinition, defined_beside}
use Rattle.wac_wit_refusals_types.specs.Following.{body_place}
use Rattle.wac_wit_refusals_types.proofs.definitions.definition_at.Goals as goal

pub returns-in-Some : goal.returns-in-Some
returns-in-Some c of knows =
    let ty = c.in-Some.ty.now in
    let p = body_place c.args.at.now.placed in
    let is = MatchOption-at_some _ _ c.in-Some.ty c.in-Some.is c.in_ok-ty.ensures of knows in
    subst (λ (n : Text). NamesDefinition of p n p ty.def) is.named (defined_beside p ty is.has)
