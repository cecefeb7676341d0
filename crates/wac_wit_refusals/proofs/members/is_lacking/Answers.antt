use Rattle.std.proofs.Common.{◌≡◌, List, Contains, subst, sym}
use Rattle.wac_wit_scopes.specs.WitSources.{ident_text, package_id}
use Rattle.wac_wit_scopes.specs.declared.scopes.ScopeItems.{ScopeItems}
use Rattle.wac_wit_scopes.proofs.ScopeFacts.{All-end, All-next}
use Rattle.wac_wit_refusals.specs.PathSteps.{LacksMember}
use Rattle.wac_wit_refusals_sites.proofs.Walks.{not_so}
use Rattle.wac_wit_refusals.proofs.members.is_lacking.Goals as goal
use Rattle.wac_wit_refusals.proofs.members.is_lacking.Goals.{else-is_same_package-via-then-is_same_package+else-not-lacks, else-is_same_package-via-else-is_same_package}

pub loop-scope-preserved : goal.loop-scope-preserved
loop-scope-preserved c =
    let P : ScopeItems → Type 0 = λ w. package_id c.args.package.now ≡ package_id w.package.now → LacksMember w.items.now (ident_text c.args.name.now) in
    All-next c.deref-scope-items.result.now c.loop-scope.scope-index P P c.scope-item.result c.loop-scope-test.true c.scope-item.is (λ t h. h) c.loop-scope.invariant
    (λ same. elim c.else-is_same_package.branch [
      | else-is_same_package-via-then-is_same_package+else-not-lacks w ↦ w.lacks.ensures w.if-not-lacks.false
      | else-is_same_package-via-else-is_same_package w ↦ absurd (not_so _ c.is_same_package.result w.if-is_same_package.false c.is_same_package.ensures same)
    ])

pub returns : goal.returns
returns c = λ is w among. All-end c.deref-scope-items.result.now c.loop-scope.scope-index (λ (w : ScopeItems). package_id c.args.package.now ≡ package_id w.package.now → LacksMember w.items.now (ident_text c.args.name.now)) c.loop-scope-test.false c.loop-scope.invariant w
    (subst (λ (l : List ScopeItems). Contains l w) (sym c.deref-scope-items.ensures.value) among)
