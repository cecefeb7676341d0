use Rattle.std.proofs.Common.{subst, sym}
use Rattle.wac_wit_refusals.specs.Reasons.{IsWrong, member_twice, renamed_interface, taken_by_package, type_of_hidden, unversioned, use_twice, younger}
use Rattle.wac_wit_refusals.proofs.reasons.is_of_members.Goals as goal

pub returns-in-UseTwice : goal.returns-in-UseTwice
returns-in-UseTwice c = λ is of judges. subst (IsWrong of c.args.file c.args.span) (sym c.in-UseTwice.is) (use_twice (c.is_use_twice.ensures is of judges))

pub returns-in-TakenByPackage : goal.returns-in-TakenByPackage
returns-in-TakenByPackage c = λ is of judges. subst (IsWrong of c.args.file c.args.span) (sym c.in-TakenByPackage.is) (taken_by_package (c.is_taken_by_package.ensures is of judges))

pub returns-in-MemberTwice : goal.returns-in-MemberTwice
returns-in-MemberTwice c = λ is of judges. subst (IsWrong of c.args.file c.args.span) (sym c.in-MemberTwice.is) (member_twice (c.is_member_twice.ensures is of judges))

pub returns-in-Unversioned : goal.returns-in-Unversioned
returns-in-Unversioned c = λ is of judges. subst (IsWrong of c.args.file c.args.span) (sym c.in-Unversioned.is) (unversioned (c.is_unversioned.ensures is of judges))

pub returns-in-Younger : goal.returns-in-Younger
returns-in-Younger c = λ is of judges. subst (IsWrong of c.args.file c.args.span) (sym c.in-Younger.is) (younger (c.is_younger.ensures is of judges))

pub returns-in-TypeOfHidden : goal.returns-in-TypeOfHidden
returns-in-TypeOfHidden c = λ is of judges. subst (IsWrong of c.args.file c.args.span) (sym c.in-TypeOfHidden.is) (type_of_hidden (c.is_type_of_hidden.ensures is of judges))

pub returns-in-RenamedInterface : goal.returns-in-RenamedInterface
returns-in-RenamedInterface c = λ is of judges. subst (IsWrong of c.args.file c.args.span) (sym c.in-RenamedInterface.is) (renamed_interface (c.is_renamed_interface.ensures is of judges))
