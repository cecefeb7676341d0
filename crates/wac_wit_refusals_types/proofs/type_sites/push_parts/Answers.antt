use Rattle.std.proofs.Common.{Contains, List, subst}
use Rattle.std.proofs.lemmas.Result.{on_ok_weaker}
use Rattle.std.specs.Borrow.{Bor}
use Rattle.wac_wit_refusals_types.specs.BorrowSteps.{IsAmongTypes, as_alias}
use Rattle.wac_wit_refusals_sites.specs.TypeSites.{IsWritten}
use Rattle.wac_wit_syntax.specs.declared.tree.TypeExpr.{TypeExpr}
use Rattle.wac_wit_refusals_types.proofs.BorrowFacts.{put_weaker}
use Rattle.wac_wit_refusals_types.proofs.type_sites.push_parts.Goals as goal

pub returns : goal.returns
returns c = on_ok_weaker c.push_types.result (put_weaker _ _ c.args.placed.now (IsAmongTypes c.deref.result.now) (IsWritten (as_alias c.args.ty.now))
    (λ e w. subst (IsWritten (as_alias c.args.ty.now)) w.2 (c.in_ok-parts.ensures w.0 (subst (λ (l : List (Bor TypeExpr)). Contains l w.0) c.deref.ensures.value w.1)))) c.push_types.ensures
