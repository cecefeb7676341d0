use Rattle.wac_wit_refusals_sites.proofs.Walks.{among_at}
use Rattle.wac_wit_refusals_sites.proofs.paths.place_all.Goals as goal

pub loop-path-preserved : goal.loop-path-preserved
loop-path-preserved c = λ of t item paths all.
    c.in_ok-place.ensures of t item (paths c.path-item.result (among_at c.args.of_item.now c.loop-path.path-index c.path-item.result c.loop-path-test.true c.path-item.is)) (c.loop-path.invariant of t item paths all)

pub returns : goal.returns
returns c = c.loop-path.invariant
