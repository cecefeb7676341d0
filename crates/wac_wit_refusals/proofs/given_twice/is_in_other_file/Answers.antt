use Rattle.std.proofs.Common.{refl}
use Rattle.wac_wit_refusals_sites.proofs.JudgeFacts.{known_scope}
use Rattle.wac_wit_scopes.specs.Scopes.{scope_syntax}
use Rattle.wac_wit_refusals.proofs.given_twice.is_in_other_file.Goals as goal

pub returns-then-has_member_in : goal.returns-then-has_member_in
returns-then-has_member_in c is of knows =
    let other = c.other-item.result in
    let known = known_scope of c.args.judge.now c.deref-other-items.result.now c.loop-other.other-index other knows c.deref-other-items.ensures.value c.loop-other-test.true c.other-item.is in
    record { other = other.file; elsewhere = c.if-other-scope.true; scope = scope_syntax other; at = known.in_file; same = c.if-is_same_package.ensures.0 refl; has = c.if-has_member_in.ensures is }
