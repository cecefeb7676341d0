use Rattle.std.proofs.Common.{subst, sym}
use Rattle.wac_wit_refusals_sites.specs.Judging.{body_syntax}
use Rattle.wac_wit_refusals_sites.specs.TypeLists.{AreTypesOf, AreUseItemsOf}
use Rattle.wac_wit_scopes.specs.WitSources.{ident_text}
use Rattle.wac_wit_refusals_types.proofs.NameFacts.{not_given}
use Rattle.wac_wit_refusals_types.proofs.type_names.is_not_given.Goals as goal

pub returns : goal.returns
returns c is =
    let b = body_syntax c.args.body.now in
    not_given b (ident_text c.args.name.now) c.deref.result.now c.deref-2.result.now (subst (AreTypesOf b) (sym c.deref.ensures.value) c.in_ok-types_of.ensures) (subst (AreUseItemsOf b) (sym c.deref-2.ensures.value) c.in_ok-uses_of.ensures) (c.no_type_gives.ensures c.if-not-no_type_gives.false) (c.no_use_gives.ensures is)
