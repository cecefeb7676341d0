use Rattle.std.proofs.Common.{◌≡◌}
use Rattle.std.proofs.lemmas.Result.{on_ok_weaker}
use Rattle.wac_wit_refusals_types.specs.BorrowSteps.{HasCarrier, SiteHas}
use Rattle.wac_wit_refusals_types.specs.declared.type_sites.TypeSite.{TypeSite}
use Rattle.wac_wit_refusals_types.specs.declared.wanted.Wanted.TheVariants.{Char}
use Rattle.wac_wit_syntax.specs.declared.tree.TypeExpr.{TypeExpr}
use Rattle.wac_wit_refusals_types.proofs.BorrowFacts.{each_put, same_char}
use Rattle.wac_wit_refusals_types.proofs.carried.push_streamed_by.Goals as goal

pub returns-in-Some : goal.returns-in-Some
returns-in-Some c = on_ok_weaker c.push_site.result (λ put of span carries all.
    let p = c.args.placed.now in
    let streamed = c.in-Some.streamed.now in
    each_put (λ (t : TypeSite). SiteHas of Char t → HasCarrier of Char p span) _ _ p (λ (e : TypeExpr). streamed ≡ e) put all (λ t at is h. carries (record { carried = streamed; carries = c.in-Some.ensures; has = same_char of t p streamed at is h })))
    c.push_site.ensures
