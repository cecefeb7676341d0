use Rattle.std.proofs.Common.{refl}
use Rattle.wac_wit_refusals_sites.proofs.JudgeFacts.{known_scope}
use Rattle.wac_wit_scopes.specs.Scopes.{scope_syntax}
use Rattle.wac_wit_refusals.proofs.given_twice.has_member.Goals as goal

pub returns-then-has_member_in : goal.returns-then-has_member_in
returns-then-has_member_in c is of knows =
    let scope = c.scope-item.result in
    let known = known_scope of c.args.judge.now c.deref-scope-items.result.now c.loop-scope.scope-index scope knows c.deref-scope-items.ensures.value c.loop-scope-test.true c.scope-item.is in
    record { scope = scope_syntax scope; is_scope = known.is_scope; same = c.if-is_same_package.ensures.0 refl; has = c.if-has_member_in.ensures is }
