use Rattle.wac_wit_refusals_sites.proofs.JudgeFacts.{scope_at}
use Rattle.wac_wit_scopes.specs.Scopes.{scope_syntax}
use Rattle.wac_wit_refusals_worlds.proofs.said_twice.is_said_twice.Goals as goal

pub returns-then-branch : goal.returns-then-branch
returns-then-branch c is of knows =
    let scope = c.scope-item.result in
    let at = scope_at of c.args.judge.now c.deref-scope-items.result.now c.loop-scope.scope-index scope c.args.file knows c.deref-scope-items.ensures.value c.loop-scope-test.true c.scope-item.is c.if-scope-file.true in
    record { scope = scope_syntax scope; at = at; twice = c.in_ok-is_said_twice_in.ensures c.if-branch.true of knows }
