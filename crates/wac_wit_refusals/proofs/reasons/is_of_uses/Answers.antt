use Rattle.std.proofs.Common.{subst, sym}
use Rattle.std.proofs.lemmas.Result.{IfOk-weaker}
use Rattle.wac_wit_refusals.specs.Reasons.{IsWrong, cycle, hidden_used, needed_twice, said_twice, unknown_used}
use Rattle.wac_wit_refusals.proofs.reasons.is_of_uses.Goals as goal

pub returns-in-UnknownUsed : goal.returns-in-UnknownUsed
returns-in-UnknownUsed c = IfOk-weaker c.is_unknown_used.result _ _ (λ b told is of judges. subst (IsWrong of c.args.file c.args.span) (sym c.in-UnknownUsed.is) (unknown_used (told is of judges))) c.is_unknown_used.ensures

pub returns-in-HiddenUsed : goal.returns-in-HiddenUsed
returns-in-HiddenUsed c = IfOk-weaker c.is_hidden_used.result _ _ (λ b told is of judges. subst (IsWrong of c.args.file c.args.span) (sym c.in-HiddenUsed.is) (hidden_used (told is of judges))) c.is_hidden_used.ensures

pub returns-in-Cycle : goal.returns-in-Cycle
returns-in-Cycle c = IfOk-weaker c.is_cycle.result _ _ (λ b told is of judges. subst (IsWrong of c.args.file c.args.span) (sym c.in-Cycle.is) (cycle (told is of judges))) c.is_cycle.ensures

pub returns-in-SaidTwice : goal.returns-in-SaidTwice
returns-in-SaidTwice c = IfOk-weaker c.is_said_twice.result _ _ (λ b told is of judges. subst (IsWrong of c.args.file c.args.span) (sym c.in-SaidTwice.is) (said_twice (told is of judges))) c.is_said_twice.ensures

pub returns-in-NeededTwice : goal.returns-in-NeededTwice
returns-in-NeededTwice c = IfOk-weaker c.is_needed_twice.result _ _ (λ b told is of judges. subst (IsWrong of c.args.file c.args.span) (sym c.in-NeededTwice.is) (needed_twice (told is of judges))) c.is_needed_twice.ensures
