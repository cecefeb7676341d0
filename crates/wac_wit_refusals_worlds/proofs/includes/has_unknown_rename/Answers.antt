use Rattle.std.proofs.Common.{Contains, ℕ, subst}
use Rattle.wac_wit_scopes.specs.Scopes.{scope_syntax}
use Rattle.wac_wit_scopes.specs.WitSources.{IsScopeAt}
use Rattle.wac_wit_syntax.specs.declared.tree.WorldItem.{WorldItem}
use Rattle.wac_wit_refusals_sites.specs.Judging.{body_syntax}
use Rattle.wac_wit_refusals_sites.specs.Sites.{HasBody}
use Rattle.wac_wit_refusals_sites.specs.declared.bodies.Body.{Body}
use Rattle.wac_wit_refusals_sites.proofs.TypeFacts.{ok_value_then}
use Rattle.wac_wit_refusals_worlds.proofs.includes.has_unknown_rename.Goals as goal

pub returns-in-World : goal.returns-in-World
returns-in-World c = ok_value_then _ _ c.has_unknown_rename_in.result c.has_unknown_rename_in.ensures (λ b h is of knows file known.
    let scope = scope_syntax c.args.placed.now.scope in
    let found = h is of knows in
    record {
      scope = scope;
      at = subst (λ (f : ℕ). IsScopeAt of f scope) known.in_file known.scope.in_file;
      items = c.in-World.items.now;
      has = subst (λ (b : Body). HasBody of scope (body_syntax b)) c.in-World.is known.has;
      item = found.renames.item;
      includes = subst (λ (t : WorldItem). Contains c.in-World.items.now t) found.renames.is found.among;
      there = found.renames.there;
      is_at = found.renames.is_at;
      unknown = found.renames.unknown;
    })
