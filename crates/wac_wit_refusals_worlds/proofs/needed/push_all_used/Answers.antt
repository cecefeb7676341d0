use Rattle.wac_wit_refusals_sites.proofs.Walks.{among_at}
use Rattle.wac_wit_refusals_worlds.proofs.needed.push_all_used.Goals as goal

pub loop-item-init : goal.loop-item-init
loop-item-init c = λ of judges n needs all. all

pub loop-item-preserved : goal.loop-item-preserved
loop-item-preserved c = λ of judges n needs all.
    c.in_ok-push_used.ensures of judges n (needs c.item-item.result (among_at c.args.items.now c.loop-item.item-index c.item-item.result c.loop-item-test.true c.item-item.is)) (c.loop-item.invariant of judges n needs all)

pub returns : goal.returns
returns c = c.loop-item.invariant
