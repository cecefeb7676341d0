use Rattle.wac_wit_refusals_sites.specs.Judging.{body_syntax}
use Rattle.wac_wit_refusals_sites.proofs.TypeFacts.{among_from, some_fact, use_among}
use Rattle.wac_wit_refusals_types.proofs.handles.followed_name.Goals as goal

pub returns-in-Some : goal.returns-in-Some
returns-in-Some c of knows =
    let placed = c.placed-item.result in
    let among = among_from c.in_ok-uses_of.field-0.items c.deref-placed-items.result.now c.loop-placed.placed-index placed c.deref-placed-items.ensures.value c.loop-placed-test.true c.placed-item.is in
    some_fact _ _ _ c.in-Some.is c.in_ok-next.ensures of knows (use_among (body_syntax c.args.at.now.placed.body) placed.item placed.used.now (c.in_ok-uses_of.ensures.at placed among))
