use Rattle.wac_wit_refusals_sites.proofs.TypeFacts.{among_from, site_of}
use Rattle.wac_wit_refusals_types.proofs.type_names.is_hidden_type.Goals as goal

pub returns-then-branch : goal.returns-then-branch
returns-then-branch c is of knows =
    let among = among_from c.in_ok-bodies_in.field-0.items c.deref-placed-items.result.now c.loop-placed.placed-index c.placed-item.result c.deref-placed-items.ensures.value c.loop-placed-test.true c.placed-item.is in
    let known = c.in_ok-bodies_in.ensures of knows c.placed-item.result among in
    record { site = site_of of c.args.file c.placed-item.result known; has = c.in_ok-has_hidden_type.ensures c.if-branch.true of knows }
