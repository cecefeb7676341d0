use Rattle.wac_wit_refusals_sites.proofs.TypeFacts.{if_some_then, ok_value_then}
use Rattle.wac_wit_refusals_types.proofs.type_sites.definition_named.Goals as goal

pub returns-in-Name : goal.returns-in-Name
returns-in-Name c = ok_value_then _ _ c.definition_of.result c.definition_of.ensures (λ o h. if_some_then _ _ o h (λ d k of knows. record { name = c.in-Name.name; is = c.in-Name.is; defines = k of knows }))
