use Rattle.std.proofs.Common.{List, Contains, subst, sym}
use Rattle.wac_wit_scopes.specs.WitSources.{HaveOneName, ident_text, package_id}
use Rattle.wac_wit_scopes.specs.declared.scopes.ScopeItems.{ScopeItems}
use Rattle.wac_wit_scopes.proofs.ScopeFacts.{All-end, All-next}
use Rattle.wac_wit_refusals.specs.PathSteps.{LacksMember}
use Rattle.wac_wit_refusals_sites.proofs.Walks.{not_so}
use Rattle.wac_wit_refusals.proofs.members.are_lacking.Goals as goal
use Rattle.wac_wit_refusals.proofs.members.are_lacking.Goals.{else-have_one_name-via-then-have_one_name+else-not-lacks, else-have_one_name-via-else-have_one_name}

pub loop-scope-preserved : goal.loop-scope-preserved
loop-scope-preserved c =
    let P : ScopeItems → Type 0 = λ w. HaveOneName (package_id w.package.now) (package_id c.args.package.now) → LacksMember w.items.now (ident_text c.args.name.now) in
    All-next c.deref-scope-items.result.now c.loop-scope.scope-index P P c.scope-item.result c.loop-scope-test.true c.scope-item.is (λ t h. h) c.loop-scope.invariant
    (λ same. elim c.else-have_one_name.branch [
      | else-have_one_name-via-then-have_one_name+else-not-lacks w ↦ w.lacks.ensures w.if-not-lacks.false
      | else-have_one_name-via-else-have_one_name w ↦ absurd (not_so _ c.have_one_name.result w.if-have_one_name.false c.have_one_name.ensures same)
    ])

pub returns : goal.returns
returns c = λ is w among. All-end c.deref-scope-items.result.now c.loop-scope.scope-index (λ (w : ScopeItems). HaveOneName (package_id w.package.now) (package_id c.args.package.now) → LacksMember w.items.now (ident_text c.args.name.now)) c.loop-scope-test.false c.loop-scope.invariant w
    (subst (λ (l : List ScopeItems). Contains l w) (sym c.deref-scope-items.ensures.value) among)
