use Rattle.wac_wit_refusals_types.proofs.BorrowFacts.{char_stream}
use Rattle.wac_wit_refusals_sites.proofs.TypeFacts.{among_from, site_of}
use Rattle.wac_wit_refusals_types.proofs.char_streams.is_char_stream.Goals as goal

pub returns-then-branch : goal.returns-then-branch
returns-then-branch c is of knows =
    let among = among_from c.in_ok-bodies_in.field-0.items c.deref-placed-items.result.now c.loop-placed.placed-index c.placed-item.result c.deref-placed-items.ensures.value c.loop-placed-test.true c.placed-item.is in
    let site = site_of of c.args.file c.placed-item.result (c.in_ok-bodies_in.ensures of knows c.placed-item.result among) in
    let h = c.in_ok-has_carrier.ensures c.if-branch.true of knows in
    char_stream of c.args.file c.args.span site h.inside h.expr h.carries.carried h.has h.is_at h.carries.carries h.carries.has
