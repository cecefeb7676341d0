use Rattle.wac_wit_refusals_worlds.proofs.NeededFacts.{needs_some}
use Rattle.wac_wit_refusals_sites.proofs.TypeFacts.{among_from}
use Rattle.wac_wit_refusals_sites.proofs.Walks.{among_none}
use Rattle.wac_wit_refusals_worlds.specs.NeededSteps.{some_of}
use Rattle.wac_wit_refusals_worlds.proofs.needed.needed_by_some.Goals as goal

pub loop-world-init : goal.loop-world-init
loop-world-init c = λ of judges exports l among. absurd (among_none _ l c.new-needed.ensures among)

pub loop-world-preserved : goal.loop-world-preserved
loop-world-preserved c = λ of judges exports.
    let e = c.args.exports.now in
    let world = c.world-item.result in
    let among = among_from e.worlds.items c.deref-world-items.result.now c.loop-world.world-index world c.deref-world-items.ensures.value c.loop-world-test.true c.world-item.is in
    c.in_ok-push_exports.ensures of judges (some_of e)
    (needs_some of c.args.judge.now e.world world (exports.worlds.within world among)) (c.loop-world.invariant of judges exports)

pub returns : goal.returns
returns c = λ of judges exports. c.in_ok-push_all_needs.ensures of judges (some_of c.args.exports.now) (c.loop-world.invariant of judges exports)
