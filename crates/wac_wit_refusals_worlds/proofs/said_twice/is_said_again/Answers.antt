use Rattle.std.proofs.Common.{subst}
use Rattle.std.proofs.lemmas.Option.{MatchOption-at_some}
use Rattle.std.proofs.lemmas.Result.{IfOk-weaker}
use Rattle.wac_wit_refusals_sites.specs.Paths.{LeadsToItem}
use Rattle.wac_wit_refusals_worlds.specs.SaidTwice.{IsSaidElsewhere}
use Rattle.wac_wit_scopes.specs.Scopes.{scope_syntax}
use Rattle.wac_wit_syntax.specs.declared.tree.TopItem.{TopItem}
use Rattle.wac_wit_refusals_worlds.proofs.said_twice.is_said_again.Goals as goal

pub returns-in-Interface : goal.returns-in-Interface
returns-in-Interface c = IfOk-weaker c.is_said_elsewhere.result _ _ (λ b h is of knows.
    let from = scope_syntax c.args.scope.now in
    let said = c.args.said.now in
    let to = c.in-Some.to in
    let found = MatchOption-at_some _ _ to c.in-Some.is c.in_ok-to.ensures of knows in
    record {
      to = scope_syntax to.scope;
      decl = c.in-Interface.field-0;
      leads = subst (λ (t : TopItem). LeadsToItem of from said.path.now (scope_syntax to.scope) t) c.in-Interface.is found.leads;
      again = subst (λ (t : TopItem). IsSaidElsewhere of from c.args.items.now c.args.index said.is_export (scope_syntax to.scope) t) c.in-Interface.is (h is of knows found.placed);
    }) c.is_said_elsewhere.ensures
