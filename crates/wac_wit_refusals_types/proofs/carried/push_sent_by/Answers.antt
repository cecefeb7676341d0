use Rattle.std.proofs.lemmas.Result.{on_ok_weaker}
use Rattle.wac_wit_refusals_types.specs.BorrowSteps.{HasCarrier, SiteHas, as_alias}
use Rattle.wac_wit_refusals_sites.specs.TypeSites.{IsWritten}
use Rattle.wac_wit_refusals_types.specs.declared.type_sites.TypeSite.{TypeSite}
use Rattle.wac_wit_refusals_types.specs.declared.wanted.Wanted.TheVariants.{Borrow}
use Rattle.wac_wit_refusals_types.proofs.BorrowFacts.{each_put, part_borrow}
use Rattle.wac_wit_refusals_types.proofs.carried.push_sent_by.Goals as goal

pub returns-in-Some : goal.returns-in-Some
returns-in-Some c = on_ok_weaker c.push_parts.result (λ put of span carries all.
    let p = c.args.placed.now in
    let sent = c.in-Some.sent.now in
    each_put (λ (t : TypeSite). SiteHas of Borrow t → HasCarrier of Borrow p span) _ _ p (IsWritten (as_alias sent)) put all (λ t at w h. carries (record { carried = sent; carries = c.in-Some.ensures; has = part_borrow of t.placed p sent t.ty.now at w h })))
    c.push_parts.ensures
