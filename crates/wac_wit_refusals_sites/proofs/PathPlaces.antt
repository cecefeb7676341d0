-- Paths in files.
use Rattle.std.proofs.Common.{ℕ, subst}
use Rattle.wac_wit_scopes.specs.Scopes.{scope_syntax}
use Rattle.wac_wit_scopes.specs.WitSources.{IsScopeAt, WitSources}
use Rattle.wac_wit_refusals_sites.specs.Leading.{IsKnownPath}
use Rattle.wac_wit_refusals_sites.specs.Paths.{PathAt}
use Rattle.wac_wit_refusals_sites.specs.declared.paths.PlacedPath.{PlacedPath}

module _ (of : WitSources) (file : ℕ) (p : PlacedPath) (known : IsKnownPath of file p) where
  abbrev pub path_at : PathAt of file
  path_at = record {
    scope = scope_syntax p.scope;
    at = subst (λ (f : ℕ). IsScopeAt of f (scope_syntax p.scope)) known.in_file known.scope.in_file;
    item = known.item;
    among = known.among;
    path = p.path.now;
    seeks = p.seeks;
    has = known.has;
  }
