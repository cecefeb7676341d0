use Rattle.wac_wit_refusals_sites.proofs.Walks.{among_at}
use Rattle.wac_wit_refusals_sites.proofs.judge.Judge.push_uses.Goals as goal

pub loop-item-preserved : goal.loop-item-preserved
loop-item-preserved c = λ of judges t holds all.
    c.in_ok-push_use.ensures of judges c.args.items.now (among_at c.args.items.now c.loop-item.item-index c.item-item.result c.loop-item-test.true c.item-item.is) t holds (c.loop-item.invariant of judges t holds all)

pub returns : goal.returns
returns c = c.loop-item.invariant
