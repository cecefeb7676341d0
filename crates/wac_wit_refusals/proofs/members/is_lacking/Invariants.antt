use Rattle.std.proofs.Common.{◌≡◌, take}
use Rattle.std.specs.Prelude.{All}
use Rattle.wac_wit_scopes.specs.WitSources.{ident_text, package_id}
use Rattle.wac_wit_scopes.specs.declared.scopes.ScopeItems.{ScopeItems}
use Rattle.wac_wit_refusals.specs.PathSteps.{LacksMember}
use Rattle.wac_wit_refusals.proofs.members.is_lacking.Given as goal

abbrev pub invariant-loop-scope : goal.invariant-loop-scope
invariant-loop-scope l = All (λ (w : ScopeItems). package_id l.package ≡ package_id w.package.now → LacksMember w.items.now (ident_text l.name)) (take l.scope-index l.scope-items)
