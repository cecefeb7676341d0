use Rattle.wac_wit_refusals_sites.proofs.TypeFacts.{some_fact}
use Rattle.wac_wit_refusals_types.proofs.type_reasons.is_empty.Goals as goal

pub returns-in-Some : goal.returns-in-Some
returns-in-Some c is of knows = record { type_item = c.in-Some.ty.now; at = some_fact _ _ _ c.in-Some.is c.in_ok-ty.ensures of knows; nothing = c.has_nothing.ensures is }
