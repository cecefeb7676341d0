use Rattle.std.proofs.Common.{ℕ, ap, subst}
use Rattle.std.proofs.lemmas.Result.{IfOk-weaker}
use Rattle.wac_wit_scopes.specs.Scopes.{scope_syntax}
use Rattle.wac_wit_scopes.specs.WitSources.{IsScopeAt}
use Rattle.wac_wit_refusals_sites.specs.Judging.{body_syntax}
use Rattle.wac_wit_refusals_sites.specs.Sites.{BodySyntax, HasBody}
use Rattle.wac_wit_refusals_worlds.proofs.needed_twice.has_needed_twice.Goals as goal

pub returns-in-World : goal.returns-in-World
returns-in-World c = IfOk-weaker c.has_needed_twice_in.result _ _ (λ b told is of knows file known.
    let placed = c.args.placed.now in
    let scope = scope_syntax placed.scope in
    let found = told is of knows in
    record {
      scope = scope;
      at = subst (λ (f : ℕ). IsScopeAt of f scope) known.in_file known.scope.in_file;
      items = c.in-World.items.now;
      has = subst (λ (b : BodySyntax). HasBody of scope b) (ap body_syntax c.in-World.is) known.has;
      item = found.item;
      among = found.among;
      is_at = found.is_at;
      from = scope_syntax found.gives.export.scope;
      export = found.gives.export.item.now;
      gives = found.gives.gives;
      twice = found.gives.twice;
    }) c.has_needed_twice_in.ensures
