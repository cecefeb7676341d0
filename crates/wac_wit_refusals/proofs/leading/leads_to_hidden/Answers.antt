use Rattle.std.proofs.lemmas.Option.{MatchOption-at_some}
use Rattle.wac_wit_scopes.specs.Scopes.{scope_syntax}
use Rattle.wac_wit_refusals_sites.proofs.PathPlaces.{path_at}
use Rattle.wac_wit_refusals_sites.proofs.Walks.{not_both}
use Rattle.wac_wit_refusals.proofs.leading.leads_to_hidden.Goals as goal

pub returns-in-Some : goal.returns-in-Some
returns-in-Some c = λ is sources judges file known.
    let of = c.args.of.now in
    let led = c.in-Some.led in
    let to = MatchOption-at_some _ _ led c.in-Some.is c.in_ok-led.ensures sources judges in
    record {
      place = path_at sources file of known;
      is_at = c.is_at.ensures c.if-not-is_at.false;
      seeks = c.seeks_member.ensures c.if-not-seeks_member.false;
      to = scope_syntax led.scope;
      item = led.item.now;
      leads = to.leads;
      hidden = λ there. not_both c.is_item_there.result is ((c.is_item_there.ensures sources judges).1 there);
    }
