use Rattle.std.proofs.Common.{true≢false, sym, ◌∙◌}
use Rattle.wac_core_merge.proofs.ExternLemmas.{table_labels, global_labels, func_labels, tag_labels}
use Rattle.wac_core_merge.proofs.externs.equal_but_for_limits.Goals as goal
use Rattle.wac_core_merge.proofs.externs.equal_but_for_limits.Goals.{then-eq, else-eq, then-eq-2, else-eq-2}

pub returns-then-x64-y64 : goal.returns-then-x64-y64
returns-then-x64-y64 c =
    let t = c.in-Table-Table in
    rw (t.is-0, t.is-1)
    (elim c.if-eq.branch [
      | then-eq w ↦ table_labels t.x64 t.y64 t.x_shared t.y_shared t.x t.y (sym c.eq-in-Table-Table.ensures ∙ w.if-eq.true) (sym w.value-is ∙ c.if-x64-y64.true)
      | else-eq w ↦ absurd (true≢false (sym c.if-x64-y64.true ∙ w.value-is ∙ w.if-eq.false))
    ])

pub returns-then-x_mutable-y_mutable : goal.returns-then-x_mutable-y_mutable
returns-then-x_mutable-y_mutable c =
    let t = c.in-Global-Global in
    rw (t.is-0, t.is-1)
    (elim c.if-eq-2.branch [
      | then-eq-2 w ↦ global_labels t.x_mutable t.y_mutable t.x_shared t.y_shared t.x t.y (sym c.eq-in-Global-Global.ensures ∙ w.if-eq-2.true) (sym w.value-is ∙ c.if-x_mutable-y_mutable.true)
      | else-eq-2 w ↦ absurd (true≢false (sym c.if-x_mutable-y_mutable.true ∙ w.value-is ∙ w.if-eq-2.false))
    ])

pub returns-in-Func-Func : goal.returns-in-Func-Func
returns-in-Func-Func c = rw (c.in-Func-Func.is-0, c.in-Func-Func.is-1) (func_labels c.in-Func-Func.x c.in-Func-Func.y c.eq.result c.eq.ensures)

pub returns-in-Tag-Tag : goal.returns-in-Tag-Tag
returns-in-Tag-Tag c = rw (c.in-Tag-Tag.is-0, c.in-Tag-Tag.is-1) (tag_labels c.in-Tag-Tag.x c.in-Tag-Tag.y c.eq-in-Tag-Tag.result c.eq-in-Tag-Tag.ensures)
