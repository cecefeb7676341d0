use Rattle.std.proofs.Common.{subst}
use Rattle.std.proofs.lemmas.Option.{MatchOption-at_some}
use Rattle.wac_wit_scopes.specs.Scopes.{scope_syntax}
use Rattle.wac_wit_syntax.specs.declared.tree.TopItem.{TopItem}
use Rattle.wac_wit_refusals_sites.specs.Paths.{LeadsToItem}
use Rattle.wac_wit_refusals_sites.proofs.Walks.{is_there_some}
use Rattle.wac_wit_refusals.proofs.leading.is_abroad.Goals as goal

pub returns-in-Some : goal.returns-in-Some
returns-in-Some c = λ is sources judges.
    let used = c.in-Use.used in
    let led = c.in-Some.led in
    let to = MatchOption-at_some _ _ led c.in-Some.is c.in_ok-led.ensures sources judges in
    let item = c.is_world.ensures is in
    record {
      used = used;
      is = c.in-Use.is;
      gives = c.is_giving.ensures c.if-not-is_giving.false;
      foreign = is_there_some used.path.package c.is_none.result c.is_none.ensures c.if-is_none.false;
      to = scope_syntax led.scope;
      world = item.0;
      leads = subst (λ (t : TopItem). LeadsToItem sources (scope_syntax c.args.of.now.scope) used.path (scope_syntax led.scope) t) item.1 to.leads;
    }
