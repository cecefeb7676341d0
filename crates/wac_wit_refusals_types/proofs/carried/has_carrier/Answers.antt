use Rattle.wac_wit_refusals_sites.proofs.TypeFacts.{ok_value_then}
use Rattle.wac_wit_refusals_sites.proofs.Walks.{among_none}
use Rattle.wac_wit_refusals_types.proofs.carried.has_carrier.Goals as goal

pub returns : goal.returns
returns c = ok_value_then _ _ c.leads_to.result c.leads_to.ensures (λ b h is of knows.
    let any = h is of knows in
    c.in_ok-push_carried.ensures of knows (λ t among. absurd (among_none _ t c.new-followed.ensures among)) any.0 any.1 any.2)
