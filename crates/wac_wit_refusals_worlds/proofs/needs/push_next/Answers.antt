use Rattle.wac_wit_refusals_sites.proofs.Walks.{among_of}
use Rattle.wac_wit_refusals_worlds.proofs.needs.push_next.Goals as goal

pub loop-path-init : goal.loop-path-init
loop-path-init c = λ of judges n next all. all

pub loop-path-preserved : goal.loop-path-preserved
loop-path-preserved c = λ of judges n next all.
    let path = c.path-item.result in
    let has = c.in_ok-paths.ensures of judges path (among_of c.in_ok-paths.paths.items c.deref-path-items.result.now c.loop-path.path-index path c.deref-path-items.ensures.value c.loop-path-test.true c.path-item.is) in
    c.in_ok-push_sought.ensures of judges n has next (c.loop-path.invariant of judges n next all)

pub returns : goal.returns
returns c = c.loop-path.invariant
