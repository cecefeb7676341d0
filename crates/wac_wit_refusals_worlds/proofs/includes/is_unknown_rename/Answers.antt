use Rattle.wac_wit_refusals_sites.proofs.TypeFacts.{among_from}
use Rattle.wac_wit_refusals_worlds.proofs.includes.is_unknown_rename.Goals as goal

pub returns-then-branch : goal.returns-then-branch
returns-then-branch c is of knows =
    let among = among_from c.in_ok-bodies_in.field-0.items c.deref-placed-items.result.now c.loop-placed.placed-index c.placed-item.result c.deref-placed-items.ensures.value c.loop-placed-test.true c.placed-item.is in
    c.in_ok-has_unknown_rename.ensures c.if-branch.true of knows c.args.file (c.in_ok-bodies_in.ensures of knows c.placed-item.result among)
