use Rattle.wac_wit_refusals_sites.proofs.JudgeFacts.{scope_at}
use Rattle.wac_wit_scopes.specs.Scopes.{scope_syntax}
use Rattle.wac_wit_refusals.proofs.externs.is_renamed_interface.Goals as goal

pub returns-then-is_renamed_in : goal.returns-then-is_renamed_in
returns-then-is_renamed_in c is of knows =
    let scope = c.scope-item.result in
    let at = scope_at of c.args.judge.now c.deref-scope-items.result.now c.loop-scope.scope-index scope c.args.file knows c.deref-scope-items.ensures.value c.loop-scope-test.true c.scope-item.is c.if-scope-file.true in
    record { scope = scope_syntax scope; at = at; renamed = c.if-is_renamed_in.ensures is of knows }
