use Rattle.std.proofs.Common.{take}
use Rattle.std.specs.Prelude.{All}
use Rattle.wac_wit_scopes.specs.WitSources.{HaveOneName, package_id}
use Rattle.wac_wit_scopes.specs.declared.scopes.ScopeItems.{ScopeItems}
use Rattle.wac_wit_refusals_sites.proofs.judge.Judge.is_ambiguous.Given as goal

abbrev pub invariant-loop-scope : goal.invariant-loop-scope
invariant-loop-scope l = All (λ (w : ScopeItems). HaveOneName (package_id w.package.now) (package_id l.named) → ⊥) (take l.scope-index l.scope-items)
