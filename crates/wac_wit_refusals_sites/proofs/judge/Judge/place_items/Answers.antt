use Rattle.wac_wit_refusals_sites.proofs.Walks.{among_at}
use Rattle.wac_wit_refusals_sites.proofs.judge.Judge.place_items.Goals as goal

pub loop-item-preserved : goal.loop-item-preserved
loop-item-preserved c = λ of judges known all.
    c.in_ok-place_item.ensures of judges (record { known = known; among = among_at c.args.scope.now.items.now c.loop-item.item-index c.item-item.result c.loop-item-test.true c.item-item.is }) (c.loop-item.invariant of judges known all)

pub returns : goal.returns
returns c = c.loop-item.invariant
