use Rattle.wac_wit_refusals_sites.proofs.TypeFacts.{ok_value_then, site_of, some_fact}
use Rattle.wac_wit_refusals_types.proofs.handles.is_not_resource.Goals as goal

pub returns : goal.returns
returns c = ok_value_then _ _ c.names_values.result c.names_values.ensures (λ x h is of knows.
    let found = c.in-Some.found in
    let at = some_fact _ _ _ c.in-Some.is c.in_ok-found.ensures of knows in
    record {
      site = site_of of c.args.file found.placed at.known;
      inside = at.inside;
      expr = found.ty.now;
      has = at.written;
      name = found.name.now;
      handle = c.is_handle.ensures c.if-not-is_handle.false at.is;
      place = at.place;
      values = h is of knows at.known.scope;
    })
