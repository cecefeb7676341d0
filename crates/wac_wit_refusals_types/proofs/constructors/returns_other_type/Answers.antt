use Rattle.wac_wit_refusals_sites.proofs.Walks.{not_both}
use Rattle.wac_wit_refusals_types.proofs.constructors.returns_other_type.Goals as goal

pub returns-then-is_returned_place : goal.returns-then-is_returned_place
returns-then-is_returned_place c = λ h. record { other = λ k. not_both c.is_constructed.result h (c.is_constructed.ensures.1 k); place = c.is_returned_place.ensures c.if-is_returned_place.true }
