use Rattle.wac_wit_scopes.specs.Scopes.{scope_syntax}
use Rattle.wac_wit_refusals_sites.proofs.Known.{known_scope}
use Rattle.wac_wit_refusals_sites.proofs.Walks.{among_of, not_so}
use Rattle.wac_wit_refusals_sites.proofs.judge.Judge.has_other.Goals as goal

pub returns-then-not-is_same_package : goal.returns-then-not-is_same_package
returns-then-not-is_same_package c = λ is of judges.
    let scope = c.scope-item.result in
    let self = c.args.self.now in
    let known = known_scope of self judges scope (among_of self.scopes.items c.deref-scope-items.result.now c.loop-scope.scope-index scope c.deref-scope-items.ensures.value c.loop-scope-test.true c.scope-item.is) in
    record {
      other = scope_syntax scope;
      there = known.is_scope;
      one_name = c.have_one_name.ensures.0 c.if-have_one_name.true;
      differs = not_so _ c.is_same_package.result c.if-not-is_same_package.true c.is_same_package.ensures;
    }
