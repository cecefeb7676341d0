use Rattle.std.proofs.Common.{subst, sym}
use Rattle.std.proofs.lemmas.Result.{IfOk-weaker}
use Rattle.wac_wit_refusals.specs.Reasons.{IsWrong, borrow_returned, borrow_sent, char_stream, empty, many_flags, named_as_resource, not_constructed, type_cycle, zero_length}
use Rattle.wac_wit_refusals.proofs.reasons.is_of_types.Goals as goal

pub returns-in-ManyFlags : goal.returns-in-ManyFlags
returns-in-ManyFlags c = IfOk-weaker c.is_many_flags.result _ _ (λ b told is of judges. subst (IsWrong of c.args.file c.args.span) (sym c.in-ManyFlags.is) (many_flags (told is of judges))) c.is_many_flags.ensures

pub returns-in-Empty : goal.returns-in-Empty
returns-in-Empty c = IfOk-weaker c.is_empty.result _ _ (λ b told is of judges. subst (IsWrong of c.args.file c.args.span) (sym c.in-Empty.is) (empty (told is of judges))) c.is_empty.ensures

pub returns-in-ZeroLength : goal.returns-in-ZeroLength
returns-in-ZeroLength c = IfOk-weaker c.is_zero_length.result _ _ (λ b told is of judges. subst (IsWrong of c.args.file c.args.span) (sym c.in-ZeroLength.is) (zero_length (told is of judges))) c.is_zero_length.ensures

pub returns-in-NamedAsResource : goal.returns-in-NamedAsResource
returns-in-NamedAsResource c = IfOk-weaker c.is_named_as_resource.result _ _ (λ b told is of judges. subst (IsWrong of c.args.file c.args.span) (sym c.in-NamedAsResource.is) (named_as_resource (told is of judges))) c.is_named_as_resource.ensures

pub returns-in-TypeCycle : goal.returns-in-TypeCycle
returns-in-TypeCycle c = IfOk-weaker c.is_type_cycle.result _ _ (λ b told is of judges. subst (IsWrong of c.args.file c.args.span) (sym c.in-TypeCycle.is) (type_cycle (told is of judges))) c.is_type_cycle.ensures

pub returns-in-NotConstructed : goal.returns-in-NotConstructed
returns-in-NotConstructed c = IfOk-weaker c.is_not_constructed.result _ _ (λ b told is of judges. subst (IsWrong of c.args.file c.args.span) (sym c.in-NotConstructed.is) (not_constructed (told is of judges))) c.is_not_constructed.ensures

pub returns-in-BorrowReturned : goal.returns-in-BorrowReturned
returns-in-BorrowReturned c = IfOk-weaker c.is_borrow_returned.result _ _ (λ b told is of judges. subst (IsWrong of c.args.file c.args.span) (sym c.in-BorrowReturned.is) (borrow_returned (told is of judges))) c.is_borrow_returned.ensures

pub returns-in-BorrowSent : goal.returns-in-BorrowSent
returns-in-BorrowSent c = IfOk-weaker c.is_borrow_sent.result _ _ (λ b told is of judges. subst (IsWrong of c.args.file c.args.span) (sym c.in-BorrowSent.is) (borrow_sent (told is of judges))) c.is_borrow_sent.ensures

pub returns-in-CharStream : goal.returns-in-CharStream
returns-in-CharStream c = IfOk-weaker c.is_char_stream.result _ _ (λ b told is of judges. subst (IsWrong of c.args.file c.args.span) (sym c.in-CharStream.is) (char_stream (told is of judges))) c.is_char_stream.ensures
