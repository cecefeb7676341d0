use Rattle.std.proofs.Common.{subst, sym}
use Rattle.wac_wit_refusals_sites.specs.Judging.{body_syntax}
use Rattle.wac_wit_refusals_sites.specs.TypeLists.{AreTypesOf, AreUseItemsOf}
use Rattle.wac_wit_scopes.specs.WitSources.{ident_text}
use Rattle.wac_wit_refusals_types.proofs.NameFacts.{given_hidden}
use Rattle.wac_wit_refusals_sites.proofs.TypeFacts.{among_from}
use Rattle.wac_wit_refusals_types.proofs.type_names.has_hidden_type.Goals as goal

pub returns-in-loop-written : goal.returns-in-loop-written
returns-in-loop-written c is of knows =
    let b = body_syntax c.args.body.now in
    let written = c.written-item.result in
    let among = among_from c.in_ok-written_in.field-0.items c.deref-written-items.result.now c.loop-written.written-index written c.deref-written-items.ensures.value c.loop-written-test.true c.written-item.is in
    let types = subst (AreTypesOf b) (sym c.deref-in-loop-written.ensures.value) c.in_ok-types.ensures in
    let uses = subst (AreUseItemsOf b) (sym c.deref-in-loop-written-2.ensures.value) c.in_ok-uses.ensures in
    record {
      inside = written.name.now;
      name = c.in-Some.name.now;
      has = record { expr = written.ty.now; has = c.in_ok-written_in.ensures of knows written among; is = c.in-Some.ensures };
      place = c.is_at.ensures c.if-is_at.true;
      hidden = given_hidden b (ident_text c.in-Some.name.now) c.deref-in-loop-written.result.now c.deref-in-loop-written-2.result.now types uses of (c.is_not_there.ensures c.if-is_not_there.true of knows);
    }
