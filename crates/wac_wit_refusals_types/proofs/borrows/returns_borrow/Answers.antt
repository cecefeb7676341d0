use Rattle.wac_wit_refusals_sites.proofs.TypeFacts.{ok_value_then}
use Rattle.wac_wit_refusals_types.proofs.borrows.returns_borrow.Goals as goal

pub returns-in-Some : goal.returns-in-Some
returns-in-Some c = ok_value_then _ _ c.has_borrow.result c.has_borrow.ensures (λ b h is of knows. record { returned = c.in-Some.ty; returns = c.in-Some.is; borrow = h is of knows })
