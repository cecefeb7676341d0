use Rattle.std.proofs.Common.{Contains, List, subst}
use Rattle.std.specs.Borrow.{Bor}
use Rattle.wac_wit_refusals_types.specs.BorrowSteps.{IsAmongTypes}
use Rattle.wac_wit_refusals_sites.specs.TypeSites.{IsWritten, a_definition}
use Rattle.wac_wit_syntax.specs.declared.tree.TypeExpr.{TypeExpr}
use Rattle.wac_wit_refusals_types.proofs.BorrowFacts.{put_weaker}
use Rattle.wac_wit_refusals_types.proofs.type_sites.push_definition.Goals as goal

pub returns-in_ok-push_types : goal.returns-in_ok-push_types
returns-in_ok-push_types c = put_weaker _ _ c.args.site.now.placed (IsAmongTypes c.deref.result.now) (IsWritten (a_definition c.args.site.now.ty.now.def))
    (λ e w. subst (IsWritten (a_definition c.args.site.now.ty.now.def)) w.2 (c.in_ok-types.ensures w.0 (subst (λ (l : List (Bor TypeExpr)). Contains l w.0) c.deref.ensures.value w.1))) c.in_ok-push_types.ensures
