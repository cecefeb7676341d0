use Rattle.wac_wit_refusals_sites.proofs.Known.{known_scope}
use Rattle.wac_wit_refusals_sites.proofs.Walks.{among_none, among_of}
use Rattle.wac_wit_refusals_sites.proofs.judge.Judge.paths_in.Goals as goal

pub loop-scope-init : goal.loop-scope-init
loop-scope-init c = λ of judges p among. absurd (among_none _ p c.new-paths.ensures.items among)

pub loop-scope-preserved : goal.loop-scope-preserved
loop-scope-preserved c = λ of judges.
    let self = c.args.self.now in
    let scope = c.scope-item.result in
    c.in_ok-place_scope.ensures of judges (known_scope of self judges scope (among_of self.scopes.items c.deref-scope-items.result.now c.loop-scope.scope-index scope c.deref-scope-items.ensures.value c.loop-scope-test.true c.scope-item.is))
    (c.loop-scope.invariant of judges)

pub returns : goal.returns
returns c = c.loop-scope.invariant
