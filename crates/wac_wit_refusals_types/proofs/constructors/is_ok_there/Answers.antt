use Rattle.std.proofs.Common.{subst}
use Rattle.wac_wit_syntax.specs.declared.tree.TypeExpr.{TypeExpr}
use Rattle.wac_wit_refusals_types.specs.Constructors.{StandsThere}
use Rattle.wac_wit_refusals_types.proofs.constructors.is_ok_there.Goals as goal

pub returns-in-Some : goal.returns-in-Some
returns-in-Some c = λ h. (c.in-Some.ty, c.in-Some.is, subst (λ (e : TypeExpr). StandsThere e c.args.span) c.deref.ensures (c.stands_there.ensures h))
