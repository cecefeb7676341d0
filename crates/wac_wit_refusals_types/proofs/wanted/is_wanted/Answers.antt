use Rattle.std.proofs.Common.{subst, sym}
use Rattle.wac_wit_refusals_types.specs.BorrowSteps.{HasWanted}
use Rattle.wac_wit_refusals_types.specs.Borrows.{HasBorrow, is_borrowed}
use Rattle.wac_wit_refusals_types.specs.CharStreams.{IsCharType, is_char}
use Rattle.wac_wit_refusals_types.specs.declared.wanted.Wanted.{Wanted}
use Rattle.wac_wit_refusals_types.proofs.wanted.is_wanted.Goals as goal

pub returns-in-Borrow : goal.returns-in-Borrow
returns-in-Borrow c is of p =
    let it = c.is_borrow.ensures is in
    subst (λ (x : Wanted). HasWanted of x p c.args.ty.now) (sym c.in-Borrow.is) (subst (HasBorrow of p) (sym it.1) (is_borrowed p it.0))

pub returns-in-Char : goal.returns-in-Char
returns-in-Char c is of p =
    let it = c.is_char.ensures is in
    subst (λ (x : Wanted). HasWanted of x p c.args.ty.now) (sym c.in-Char.is) (subst (IsCharType of p) (sym it.1) (is_char p it.0))
