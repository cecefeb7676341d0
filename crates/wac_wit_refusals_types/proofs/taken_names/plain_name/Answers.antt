use Rattle.wac_wit_refusals_sites.proofs.TypeFacts.{if_some_all}
use Rattle.wac_wit_refusals_types.proofs.taken_names.plain_name.Goals as goal

pub returns : goal.returns
returns c = record { there = if_some_all _ c.plain_name_of.result (λ n of knows. (c.is_there.ensures of knows).0 c.if-not-is_there.false); has = c.plain_name_of.ensures }
