use Rattle.wac_wit_scopes.proofs.PathFacts.{contains_at, read_from}
use Rattle.wac_wit_refusals_worlds.proofs.needs.is_among.Goals as goal

pub returns-in-Some-get : goal.returns-in-Some-get
returns-in-Some-get c = λ is.
    let found = c.args.reached.now.found.items in
    let of = c.in-Some-get.of.now in
    (of, contains_at found c.in-Some.index of (read_from found c.deref.result.now c.in-Some.index of c.deref.ensures.value c.in-Some-get.ensures.lookup.0 c.in-Some-get.ensures.lookup.1), c.is_place.ensures is)
