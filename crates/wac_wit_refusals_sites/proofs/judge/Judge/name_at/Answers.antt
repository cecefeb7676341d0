use Rattle.wac_wit_refusals_sites.proofs.TypeFacts.{among_from, some_fact}
use Rattle.wac_wit_refusals_sites.proofs.judge.Judge.name_at.Goals as goal

pub returns-in-Some : goal.returns-in-Some
returns-in-Some c of knows =
    let among = among_from c.in_ok-bodies_in.field-0.items c.deref-placed-items.result.now c.loop-placed.placed-index c.placed-item.result c.deref-placed-items.ensures.value c.loop-placed-test.true c.placed-item.is in
    let known = c.in_ok-bodies_in.ensures of knows c.placed-item.result among in
    some_fact _ _ _ c.in-Some.is c.in_ok-name.ensures of knows c.args.file known
