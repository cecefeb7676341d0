use Rattle.std.proofs.Common.{◌≡◌, ◌∙◌, sym, subst}
use Rattle.std.proofs.lemmas.Result.{IfOk-weaker}
use Rattle.indexmap.specs.IndexMap.{get_by_text}
use Rattle.wac_wit_validation_names.specs.Ambiguity.{IsFreeUse}
use Rattle.wac_wit_scopes.specs.WitSources.{package_id}
use Rattle.wac_wit_validation_names.proofs.ambiguity.is_free.Goals as goal

pub returns-in-Use : goal.returns-in-Use
returns-in-Use c = IfOk-weaker c.is_free_use.result _ _ (λ b h is u at.
    let same : c.in-Use.used ≡ u = let both = sym c.in-Use.is ∙ at in cc in
    subst (IsFreeUse (get_by_text c.args.noted.now) (package_id c.args.package.now)) same (h is)) c.is_free_use.ensures

pub returns-in_default : goal.returns-in_default
returns-in_default c = λ is u at. absurd (c.in_default.not-Use u at)
