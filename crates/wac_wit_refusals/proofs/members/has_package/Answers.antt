use Rattle.wac_wit_scopes.specs.Scopes.{scope_syntax}
use Rattle.wac_wit_refusals_sites.proofs.Known.{known_scope}
use Rattle.wac_wit_refusals_sites.proofs.Walks.{among_of}
use Rattle.wac_wit_refusals.proofs.members.has_package.Goals as goal

pub returns-then-is_package_of : goal.returns-then-is_package_of
returns-then-is_package_of c = λ is of judges.
    let scope = c.scope-item.result in
    let self = c.args.judge.now in
    let known = known_scope of self judges scope (among_of self.scopes.items c.deref-scope-items.result.now c.loop-scope.scope-index scope c.deref-scope-items.ensures.value c.loop-scope-test.true c.scope-item.is) in
    (scope_syntax scope, known.is_scope, c.is_package_of.ensures c.if-is_package_of.true of known)
