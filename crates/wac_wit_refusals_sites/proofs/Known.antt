-- What is known of scopes.
use Rattle.std.proofs.Common.{◌∙◌, Contains, Some, ap, subst}
use Rattle.std.proofs.lemmas.Option.{slice_get-get_or}
use Rattle.wac_wit_scopes.specs.Scopes.{IsKnownScope, scope_syntax}
use Rattle.wac_wit_scopes.specs.WitSources.{IsScopeOf, ScopeSyntax, WitSources}
use Rattle.wac_wit_scopes.specs.declared.scopes.ScopeItems.{ScopeItems}
use Rattle.wac_wit_refusals_sites.specs.Judging.{Judges}
use Rattle.wac_wit_refusals_sites.specs.declared.judge.Judge.{Judge}

module _ (of : WitSources) (j : Judge) (judges : Judges of j) where
  pub known_scope : (w : ScopeItems) → Contains j.scopes.items w → IsKnownScope of w
  known_scope w among = judges.known among.0 w (slice_get-get_or j.scopes.items among.0 w among.1 ∙ ap Some among.2)

  -- what holds of each scope that is known holds of all
  pub each_scope : (P : ScopeSyntax → Type 0) → ((w : ScopeItems) → Contains j.scopes.items w → P (scope_syntax w)) → (w : ScopeSyntax) → IsScopeOf of w → P w
  each_scope P all w is = let h = judges.all w is in subst P h.is (all h.scope h.among)
