use Rattle.std.proofs.Common.{subst, sym}
use Rattle.std.proofs.lemmas.Result.{IfOk-weaker}
use Rattle.wac_wit_refusals.specs.Reasons.{IsWrong, export_twice, included_twice, unknown_rename}
use Rattle.wac_wit_refusals.proofs.reasons.is_of_includes.Goals as goal

pub returns-in-UnknownRename : goal.returns-in-UnknownRename
returns-in-UnknownRename c = IfOk-weaker c.is_unknown_rename.result _ _ (λ b told is of judges. subst (IsWrong of c.args.file c.args.span) (sym c.in-UnknownRename.is) (unknown_rename (told is of judges))) c.is_unknown_rename.ensures

pub returns-in-IncludedTwice : goal.returns-in-IncludedTwice
returns-in-IncludedTwice c = IfOk-weaker c.is_coming_twice.result _ _ (λ b told is of judges. subst (IsWrong of c.args.file c.args.span) (sym c.in-IncludedTwice.is) (included_twice (told is of judges))) c.is_coming_twice.ensures

pub returns-in-NameTwice : goal.returns-in-NameTwice
returns-in-NameTwice c = IfOk-weaker c.is_coming_twice-in-NameTwice.result _ _ (λ b told is of judges. subst (IsWrong of c.args.file c.args.span) (sym c.in-NameTwice.is) (export_twice (told is of judges))) c.is_coming_twice-in-NameTwice.ensures
