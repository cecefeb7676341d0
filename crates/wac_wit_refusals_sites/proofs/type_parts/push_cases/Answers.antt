use Rattle.std.proofs.Common.{subst, sym}
use Rattle.std.specs.Borrow.{Bor}
use Rattle.std.specs.Prelude.{Vec}
use Rattle.std.specs.declared.alloc.Global.{Global}
use Rattle.wac_wit_refusals_sites.specs.TypeLists.{AreWritten}
use Rattle.wac_wit_syntax.specs.declared.tree.TypeExpr.{TypeExpr}
use Rattle.wac_wit_refusals_sites.proofs.TypeFacts.{among_read}
use Rattle.wac_wit_refusals_sites.proofs.type_parts.push_cases.Goals.{in-Some+in_ok-push_type, in_default}
use Rattle.wac_wit_refusals_sites.proofs.type_parts.push_cases.Goals as goal

pub loop-case-preserved : goal.loop-case-preserved
loop-case-preserved c s cases all =
    let among = among_read c.args.cases.now c.loop-case.case-index c.case-item.result c.loop-case-test.true c.case-item.is in
    elim c.match-case.branch [
      | in-Some+in_ok-push_type w ↦ subst (λ (v : Vec (Bor TypeExpr) Global). AreWritten s v.items) (sym w.types-is) (w.in_ok-push_type.ensures s (cases c.case-item.result among w.in-Some.ty w.in-Some.is) (c.loop-case.invariant s cases all))
      | in_default w ↦ subst (λ (v : Vec (Bor TypeExpr) Global). AreWritten s v.items) (sym w.types-is) (c.loop-case.invariant s cases all)
    ]

pub returns : goal.returns
returns c = c.loop-case.invariant
