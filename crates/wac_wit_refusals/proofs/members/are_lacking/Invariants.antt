use Rattle.std.proofs.Common.{take}
use Rattle.std.specs.Prelude.{All}
use Rattle.wac_wit_scopes.specs.WitSources.{HaveOneName, ident_text, package_id}
use Rattle.wac_wit_scopes.specs.declared.scopes.ScopeItems.{ScopeItems}
use Rattle.wac_wit_refusals.specs.PathSteps.{LacksMember}
use Rattle.wac_wit_refusals.proofs.members.are_lacking.Given as goal

abbrev pub invariant-loop-scope : goal.invariant-loop-scope
invariant-loop-scope l = All (λ (w : ScopeItems). HaveOneName (package_id w.package.now) (package_id l.package) → LacksMember w.items.now (ident_text l.name)) (take l.scope-index l.scope-items)
