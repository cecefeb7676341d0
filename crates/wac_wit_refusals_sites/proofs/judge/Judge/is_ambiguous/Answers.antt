use Rattle.std.proofs.Common.{List, Contains, subst, sym}
use Rattle.wac_wit_scopes.specs.Scopes.{scope_syntax}
use Rattle.wac_wit_scopes.specs.WitSources.{HaveOneName, ScopeSyntax, package_id}
use Rattle.wac_wit_scopes.specs.declared.scopes.ScopeItems.{ScopeItems}
use Rattle.wac_wit_scopes.proofs.ScopeFacts.{All-end, All-next}
use Rattle.wac_wit_refusals_sites.proofs.Known.{each_scope, known_scope}
use Rattle.wac_wit_refusals_sites.proofs.Versions.{two_versions}
use Rattle.wac_wit_refusals_sites.proofs.Walks.{among_of, not_so}
use Rattle.wac_wit_refusals_sites.proofs.judge.Judge.is_ambiguous.Goals as goal

pub loop-scope-preserved : goal.loop-scope-preserved
loop-scope-preserved c =
    let P : ScopeItems → Type 0 = λ w. HaveOneName (package_id w.package.now) (package_id c.args.named.now) → ⊥ in
    All-next c.deref-scope-items.result.now c.loop-scope.scope-index P P c.scope-item.result c.loop-scope-test.true c.scope-item.is (λ t h. h) c.loop-scope.invariant (not_so _ c.have_one_name.result c.if-have_one_name.false c.have_one_name.ensures)

pub returns-then-have_one_name : goal.returns-then-have_one_name
returns-then-have_one_name c = λ is of judges w there same only.
    let scope = c.scope-item.result in
    let self = c.args.self.now in
    let known = known_scope of self judges scope (among_of self.scopes.items c.deref-scope-items.result.now c.loop-scope.scope-index scope c.deref-scope-items.ensures.value c.loop-scope-test.true c.scope-item.is) in
    two_versions of w (scope_syntax scope) (package_id c.args.named.now) only known.is_scope (c.have_one_name.ensures.0 c.if-have_one_name.true) same (c.has_other.ensures is of judges)

pub returns : goal.returns
returns c = λ is of judges w there same only. each_scope of c.args.self.now judges (λ (v : ScopeSyntax). HaveOneName v.package (package_id c.args.named.now) → ⊥) (λ v among.
    All-end c.deref-scope-items.result.now c.loop-scope.scope-index (λ (w : ScopeItems). HaveOneName (package_id w.package.now) (package_id c.args.named.now) → ⊥) c.loop-scope-test.false c.loop-scope.invariant v
    (subst (λ (l : List ScopeItems). Contains l v) (sym c.deref-scope-items.ensures.value) among)) w there same
