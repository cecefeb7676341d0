use Rattle.wac_wit_scopes.proofs.PathFacts.{contains_at, read_from}
use Rattle.wac_wit_validation.proofs.WorldFacts.{then_some_told}
use Rattle.wac_wit_validation.proofs.validator.Validator.included.Goals as goal

pub returns : goal.returns
returns c =
    let v = c.args.self.now in
    let found_at = read_from v.worlds.items c.deref.result.now c.in_ok-get.field-0.now c.in_ok-found.found.now c.deref.ensures.value c.in_ok-found.ensures.lookup.0 c.in_ok-found.ensures.lookup.1 in
    then_some_told c.leads_to_world.result c.in_ok-found.found c.then_some.result _ c.then_some.ensures (λ is. (contains_at v.worlds.items c.in_ok-get.field-0.now c.in_ok-found.found.now found_at, c.leads_to_world.ensures is))
