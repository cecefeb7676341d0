use Rattle.std.proofs.Common.{◌≡◌, List, Contains, subst, sym}
use Rattle.wac_wit_scopes.specs.WitSources.{package_id}
use Rattle.wac_wit_scopes.specs.declared.scopes.ScopeItems.{ScopeItems}
use Rattle.wac_wit_scopes.proofs.ScopeFacts.{All-end, All-next}
use Rattle.wac_wit_refusals_sites.proofs.Walks.{not_so}
use Rattle.wac_wit_refusals_sites.proofs.judge.Judge.lacks_package.Goals as goal

pub loop-scope-preserved : goal.loop-scope-preserved
loop-scope-preserved c =
    let P : ScopeItems → Type 0 = λ w. package_id c.args.named.now ≡ package_id w.package.now → ⊥ in
    All-next c.deref-scope-items.result.now c.loop-scope.scope-index P P c.scope-item.result c.loop-scope-test.true c.scope-item.is (λ t h. h) c.loop-scope.invariant (not_so _ c.is_same_package.result c.if-is_same_package.false c.is_same_package.ensures)

pub returns : goal.returns
returns c = λ is w among. All-end c.deref-scope-items.result.now c.loop-scope.scope-index (λ (v : ScopeItems). package_id c.args.named.now ≡ package_id v.package.now → ⊥) c.loop-scope-test.false c.loop-scope.invariant w
    (subst (λ (l : List ScopeItems). Contains l w) (sym c.deref-scope-items.ensures.value) among)
