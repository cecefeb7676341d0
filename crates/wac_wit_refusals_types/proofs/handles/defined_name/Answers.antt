use Rattle.std.proofs.lemmas.Option.{MatchOption-at_some}
use Rattle.wac_wit_refusals_types.proofs.handles.defined_name.Goals as goal

pub returns-in-Some : goal.returns-in-Some
returns-in-Some c of knows known =
    let is = MatchOption-at_some _ _ c.in-Some.ty c.in-Some.is c.in_ok-ty.ensures of knows in
    c.step_of.ensures of known is.has is.named
