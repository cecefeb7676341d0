use Rattle.std.proofs.Common.{List, subst, sym}
use Rattle.std.proofs.lemmas.Result.{on_ok_weaker}
use Rattle.wac_wit_refusals_types.specs.BorrowSteps.{AddsNamed, AnySite, IsAliased, SiteHas}
use Rattle.wac_wit_refusals_sites.specs.TypeSites.{IsWritten, a_definition}
use Rattle.wac_wit_refusals_types.specs.declared.type_sites.TypeSite.{TypeSite}
use Rattle.wac_wit_refusals_types.specs.declared.wanted.Wanted.{Wanted}
use Rattle.wac_wit_refusals_types.specs.declared.wanted.Wanted.TheVariants.{Borrow, Char}
use Rattle.wac_wit_refusals_types.proofs.BorrowFacts.{each_put, name_borrow, name_char}
use Rattle.wac_wit_refusals_sites.proofs.TypeFacts.{some_fact}
use Rattle.wac_wit_refusals_types.proofs.wanted.push_named.Goals as goal

pub returns-in-Borrow : goal.returns-in-Borrow
returns-in-Borrow c = on_ok_weaker c.push_definition.result (λ put of knows. subst (λ (x : Wanted). AddsNamed (SiteHas of x) c.args.from.now c.args.followed.now.found.items c.push_definition.new.followed.found.items) (sym c.in-Borrow.is) (λ (first : List TypeSite) back all.
    let site = c.in-Some.site in
    let named = some_fact _ _ _ c.in-Some.is c.in_ok-site.ensures of knows in
    each_put (λ (t : TypeSite). SiteHas of Borrow t → AnySite (SiteHas of Borrow) first) _ _ site.placed (IsWritten (a_definition site.ty.now.def)) put all (λ t at w h. back (name_borrow of c.args.from.now site t named at w h))))
    c.push_definition.ensures

pub returns-in-Char : goal.returns-in-Char
returns-in-Char c = on_ok_weaker c.push_aliased.result (λ put of knows. subst (λ (x : Wanted). AddsNamed (SiteHas of x) c.args.from.now c.args.followed.now.found.items c.push_aliased.new.followed.found.items) (sym c.in-Char.is) (λ (first : List TypeSite) back all.
    let site = c.in-Some.site in
    let named = some_fact _ _ _ c.in-Some.is c.in_ok-site.ensures of knows in
    each_put (λ (t : TypeSite). SiteHas of Char t → AnySite (SiteHas of Char) first) _ _ site.placed (IsAliased site) put all (λ t at w h. back (name_char of c.args.from.now site t named at w h))))
    c.push_aliased.ensures
