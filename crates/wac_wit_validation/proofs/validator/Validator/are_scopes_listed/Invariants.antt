use Rattle.wac_wit_scopes.specs.Scopes.{IsKnownScope, scope_syntax}
use Rattle.wac_wit_validation.specs.Checking.{Knows}
use Rattle.wac_wit_validation.specs.Listing.{IsScopeListed}
use Rattle.wac_wit_scopes.specs.WitSources.{WitSources}
use Rattle.wac_wit_scopes.specs.declared.scopes.ScopeItems.{ScopeItems}
use Rattle.wac_wit_validation_types.proofs.MarkFacts.{AllBelow}
use Rattle.wac_wit_validation.proofs.validator.Validator.are_scopes_listed.Given as goal

abbrev pub invariant-loop-index : goal.invariant-loop-index
invariant-loop-index l = (of : WitSources) → Knows of l.self → AllBelow (λ (w : ScopeItems). IsKnownScope of w → IsScopeListed of l.listed (scope_syntax w)) l.scope-items l.index
