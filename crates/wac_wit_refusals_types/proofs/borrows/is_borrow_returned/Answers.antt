use Rattle.wac_wit_refusals_sites.proofs.TypeFacts.{among_from, site_of}
use Rattle.wac_wit_refusals_types.proofs.borrows.is_borrow_returned.Goals as goal

pub returns-then-branch : goal.returns-then-branch
returns-then-branch c is of knows =
    let among = among_from c.in_ok-bodies_in.field-0.items c.deref-placed-items.result.now c.loop-placed.placed-index c.placed-item.result c.deref-placed-items.ensures.value c.loop-placed-test.true c.placed-item.is in
    let site = site_of of c.args.file c.placed-item.result (c.in_ok-bodies_in.ensures of knows c.placed-item.result among) in
    let h = c.in_ok-has_borrow_returned.ensures c.if-branch.true of knows in
    record { site = site; name = h.name; signature = h.signature; has = h.has; is_at = h.is_at; returned = h.borrow.returned; returns = h.borrow.returns; borrow = h.borrow.borrow }
