use Rattle.std.proofs.Common.{subst, sym}
use Rattle.std.proofs.lemmas.Result.{IfOk-weaker}
use Rattle.wac_wit_refusals.specs.Reasons.{IsWrong, foreign_world, hidden_member, not_interface, not_world, own_package, unknown_member, unknown_package}
use Rattle.wac_wit_refusals.proofs.reasons.is_of_paths.Goals as goal

pub returns-in-UnknownPackage : goal.returns-in-UnknownPackage
returns-in-UnknownPackage c = IfOk-weaker c.is_unknown_package.result _ _ (λ b told is of judges. subst (IsWrong of c.args.file c.args.span) (sym c.in-UnknownPackage.is) (unknown_package (told is of judges))) c.is_unknown_package.ensures

pub returns-in-OwnPackage : goal.returns-in-OwnPackage
returns-in-OwnPackage c = IfOk-weaker c.is_own_package.result _ _ (λ b told is of judges. subst (IsWrong of c.args.file c.args.span) (sym c.in-OwnPackage.is) (own_package (told is of judges))) c.is_own_package.ensures

pub returns-in-UnknownMember : goal.returns-in-UnknownMember
returns-in-UnknownMember c = IfOk-weaker c.is_unknown_member.result _ _ (λ b told is of judges. subst (IsWrong of c.args.file c.args.span) (sym c.in-UnknownMember.is) (unknown_member (told is of judges))) c.is_unknown_member.ensures

pub returns-in-NotInterface : goal.returns-in-NotInterface
returns-in-NotInterface c = IfOk-weaker c.is_not_interface.result _ _ (λ b told is of judges. subst (IsWrong of c.args.file c.args.span) (sym c.in-NotInterface.is) (not_interface (told is of judges))) c.is_not_interface.ensures

pub returns-in-NotWorld : goal.returns-in-NotWorld
returns-in-NotWorld c = IfOk-weaker c.is_not_world.result _ _ (λ b told is of judges. subst (IsWrong of c.args.file c.args.span) (sym c.in-NotWorld.is) (not_world (told is of judges))) c.is_not_world.ensures

pub returns-in-HiddenMember : goal.returns-in-HiddenMember
returns-in-HiddenMember c = IfOk-weaker c.is_hidden_member.result _ _ (λ b told is of judges. subst (IsWrong of c.args.file c.args.span) (sym c.in-HiddenMember.is) (hidden_member (told is of judges))) c.is_hidden_member.ensures

pub returns-in-ForeignWorld : goal.returns-in-ForeignWorld
returns-in-ForeignWorld c = IfOk-weaker c.is_foreign_world.result _ _ (λ b told is of judges. subst (IsWrong of c.args.file c.args.span) (sym c.in-ForeignWorld.is) (foreign_world (told is of judges))) c.is_foreign_world.ensures
