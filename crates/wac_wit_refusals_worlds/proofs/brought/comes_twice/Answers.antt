use Rattle.std.proofs.Common.{ℕ, subst}
use Rattle.wac_wit_scopes.specs.Scopes.{scope_syntax}
use Rattle.wac_wit_scopes.specs.WitSources.{IsScopeAt}
use Rattle.wac_wit_refusals_sites.specs.Judging.{body_syntax}
use Rattle.wac_wit_refusals_sites.specs.Sites.{HasBody}
use Rattle.wac_wit_refusals_sites.specs.declared.bodies.Body.{Body}
use Rattle.wac_wit_refusals_sites.proofs.TypeFacts.{ok_value_then}
use Rattle.wac_wit_refusals_worlds.proofs.brought.comes_twice.Goals as goal

pub returns-in-World : goal.returns-in-World
returns-in-World c = ok_value_then _ _ c.brings_twice.result c.brings_twice.ensures (λ b h is of knows file known.
    let scope = scope_syntax c.args.placed.now.scope in
    record {
      scope = scope;
      at = subst (λ (f : ℕ). IsScopeAt of f scope) known.in_file known.scope.in_file;
      items = c.in-World.items.now;
      has = subst (λ (b : Body). HasBody of scope (body_syntax b)) c.in-World.is known.has;
      twice = h is of knows;
    })
