use Rattle.wac_wit_refusals_sites.proofs.TypeFacts.{ok_value_then, site_of, some_fact}
use Rattle.wac_wit_refusals_types.proofs.type_names.is_unknown_type.Goals as goal

pub returns-in-Some : goal.returns-in-Some
returns-in-Some c = ok_value_then _ _ c.is_not_given.result c.is_not_given.ensures (λ x h is of knows.
    let found = c.in-Some.found in
    let at = some_fact _ _ _ c.in-Some.is c.in_ok-found.ensures of knows in
    record { site = site_of of c.args.file found.placed at.known; inside = at.inside; name = found.name.now; has = record { expr = found.ty.now; has = at.written; is = at.is }; place = at.place; not_given = h is })
