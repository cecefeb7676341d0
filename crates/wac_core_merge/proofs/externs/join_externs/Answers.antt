use Rattle.wac_core.specs.Content.{core_tree}
use Rattle.wac_core_merge.specs.Limits.{limits_tree}
use Rattle.wac_core_merge.proofs.ExternLemmas.{join_by_limits}
use Rattle.wac_core_merge.proofs.externs.join_externs.Goals as goal

pub returns-in_ok-limited-in-Some-Some : goal.returns-in_ok-limited-in-Some-Some
returns-in_ok-limited-in-Some-Some c =
    join_by_limits (core_tree c.args.a.now) (core_tree c.args.b.now) (core_tree c.in_ok-limited-in-Some-Some.field-0) (limits_tree c.in-Some-Some.x) (limits_tree c.in-Some-Some.y) (limits_tree c.join_limits.result)
    (c.equal_but_for_limits.ensures.0 c.if-not-equal_but_for_limits.false) c.in-Some-Some.ensures c.in-Some-Some.ensures' c.join_limits.ensures c.in_ok-limited-in-Some-Some.ensures
