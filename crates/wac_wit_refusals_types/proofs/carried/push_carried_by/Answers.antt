use Rattle.std.proofs.Common.{subst, sym}
use Rattle.std.proofs.lemmas.Result.{on_ok_weaker}
use Rattle.wac_wit_refusals_types.specs.BorrowSteps.{AddsCarriedBy}
use Rattle.wac_wit_refusals_types.specs.declared.wanted.Wanted.{Wanted}
use Rattle.wac_wit_refusals_types.proofs.carried.push_carried_by.Goals as goal

pub returns-in-Borrow : goal.returns-in-Borrow
returns-in-Borrow c = on_ok_weaker c.push_sent_by.result (λ adds of.
    subst (λ (x : Wanted). AddsCarriedBy of x c.args.placed.now c.args.ty.now c.args.followed.now.found.items c.push_sent_by.new.followed.found.items) (sym c.in-Borrow.is) (adds of))
    c.push_sent_by.ensures

pub returns-in-Char : goal.returns-in-Char
returns-in-Char c = on_ok_weaker c.push_streamed_by.result (λ adds of.
    subst (λ (x : Wanted). AddsCarriedBy of x c.args.placed.now c.args.ty.now c.args.followed.now.found.items c.push_streamed_by.new.followed.found.items) (sym c.in-Char.is) (adds of))
    c.push_streamed_by.ensures
