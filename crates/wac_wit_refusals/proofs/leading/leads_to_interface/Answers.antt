use Rattle.std.proofs.Common.{subst}
use Rattle.std.proofs.lemmas.Option.{MatchOption-at_some}
use Rattle.wac_wit_scopes.specs.Scopes.{scope_syntax}
use Rattle.wac_wit_syntax.specs.declared.tree.TopItem.{TopItem}
use Rattle.wac_wit_refusals_sites.specs.Paths.{LeadsToItem}
use Rattle.wac_wit_refusals_sites.proofs.PathPlaces.{path_at}
use Rattle.wac_wit_refusals.proofs.leading.leads_to_interface.Goals as goal

pub returns-in-Some : goal.returns-in-Some
returns-in-Some c = λ is sources judges file known.
    let of = c.args.of.now in
    let led = c.in-Some.led in
    let to = MatchOption-at_some _ _ led c.in-Some.is c.in_ok-led.ensures sources judges in
    let item = c.is_interface.ensures is in
    record {
      place = path_at sources file of known;
      is_at = c.is_at.ensures c.if-not-is_at.false;
      seeks = c.seeks_world.ensures c.if-not-seeks_world.false;
      to = scope_syntax led.scope;
      found = item.0;
      leads = subst (λ (t : TopItem). LeadsToItem sources (scope_syntax of.scope) of.path.now (scope_syntax led.scope) t) item.1 to.leads;
    }
