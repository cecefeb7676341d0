use Rattle.wac_wit_refusals_types.specs.BorrowSteps.{as_alias}
use Rattle.wac_wit_refusals_types.specs.Borrows.{HasBorrow}
use Rattle.wac_wit_refusals_types.specs.Following.{body_place}
use Rattle.wac_wit_refusals_sites.specs.TypeSites.{IsWritten}
use Rattle.wac_wit_refusals_types.specs.declared.type_sites.TypeSite.{TypeSite}
use Rattle.wac_wit_refusals_types.proofs.BorrowFacts.{part_borrow, put_then}
use Rattle.wac_wit_refusals_sites.proofs.TypeFacts.{ok_value_then}
use Rattle.wac_wit_refusals_sites.proofs.Walks.{among_none}
use Rattle.wac_wit_refusals_types.proofs.borrows.has_borrow.Goals as goal

pub returns : goal.returns
returns c = ok_value_then _ _ c.leads_to.result c.leads_to.ensures (λ b h is of knows.
    let p = c.args.placed.now in
    let any = h is of knows in
    put_then (λ (t : TypeSite). HasBorrow of (body_place p) c.args.ty.now) _ p (IsWritten (as_alias c.args.ty.now)) any.0 (c.in_ok-push_parts.ensures any.0 any.1)
    (λ among. absurd (among_none _ any.0 c.new-followed.ensures among)) (λ at w. part_borrow of any.0.placed p c.args.ty.now any.0.ty.now at w any.2))
