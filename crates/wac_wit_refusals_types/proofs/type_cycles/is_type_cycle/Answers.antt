use Rattle.std.proofs.Common.{subst, sym}
use Rattle.wac_model.specs.Text.{Text}
use Rattle.wac_wit_refusals_sites.specs.Judging.{body_syntax}
use Rattle.wac_wit_refusals_types.specs.TypeCycles.{TypeLeadsTo}
use Rattle.wac_wit_refusals_sites.specs.TypeLists.{AreThere}
use Rattle.wac_wit_scopes.specs.WitSources.{ident_text}
use Rattle.wac_wit_refusals_sites.proofs.TypeFacts.{ok_value_then, site_of, some_fact}
use Rattle.wac_wit_refusals_types.proofs.type_cycles.is_type_cycle.Goals as goal

pub returns-in_ok-types-in-Some : goal.returns-in_ok-types-in-Some
returns-in_ok-types-in-Some c = ok_value_then _ _ c.leads_back.result c.leads_back.ensures (λ x h is of knows.
    let found = c.in-Some.found in
    let at = some_fact _ _ _ c.in-Some.is c.in_ok-found.ensures of knows in
    let b = body_syntax found.placed.body in
    let l = h is of b (subst (AreThere of b) (sym c.deref.ensures.value) (c.in_ok-types-in-Some.ensures of knows)) in
    record {
      site = site_of of c.args.file found.placed at.known;
      type_item = l.type_item;
      name = l.names.name;
      names = record { has = l.has; expr = l.names.has.expr; written = l.names.has.written; is = l.names.has.is };
      place = l.names.place;
      back = subst (λ (n : Text). TypeLeadsTo of b n (ident_text l.type_item.name)) (sym l.names.named) l.leads;
    })
