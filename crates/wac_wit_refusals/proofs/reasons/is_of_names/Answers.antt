use Rattle.std.proofs.Common.{subst, sym}
use Rattle.std.proofs.lemmas.Result.{IfOk-weaker}
use Rattle.wac_wit_refusals.specs.Reasons.{IsWrong, hidden_type, name_twice, not_resource, unknown_type}
use Rattle.wac_wit_refusals.proofs.reasons.is_of_names.Goals as goal

pub returns-in-NameTwice : goal.returns-in-NameTwice
returns-in-NameTwice c = IfOk-weaker c.is_name_twice.result _ _ (λ b told is of judges. subst (IsWrong of c.args.file c.args.span) (sym c.in-NameTwice.is) (name_twice (told is of judges))) c.is_name_twice.ensures

pub returns-in-UnknownType : goal.returns-in-UnknownType
returns-in-UnknownType c = IfOk-weaker c.is_unknown_type.result _ _ (λ b told is of judges. subst (IsWrong of c.args.file c.args.span) (sym c.in-UnknownType.is) (unknown_type (told is of judges))) c.is_unknown_type.ensures

pub returns-in-HiddenType : goal.returns-in-HiddenType
returns-in-HiddenType c = IfOk-weaker c.is_hidden_type.result _ _ (λ b told is of judges. subst (IsWrong of c.args.file c.args.span) (sym c.in-HiddenType.is) (hidden_type (told is of judges))) c.is_hidden_type.ensures

pub returns-in-NotResource : goal.returns-in-NotResource
returns-in-NotResource c = IfOk-weaker c.is_not_resource.result _ _ (λ b told is of judges. subst (IsWrong of c.args.file c.args.span) (sym c.in-NotResource.is) (not_resource (told is of judges))) c.is_not_resource.ensures
