use Rattle.wac_wit_refusals_sites.proofs.Walks.{among_of}
use Rattle.wac_wit_refusals_sites.proofs.judge.Judge.push_of_world.Goals as goal

pub loop-item-preserved : goal.loop-item-preserved
loop-item-preserved c = λ of judges there all.
    let decl = c.args.decl.now in
    c.in_ok-push_of_item.ensures of judges decl there (among_of decl.items.items c.deref-item-items.result.now c.loop-item.item-index c.item-item.result c.deref-item-items.ensures.value c.loop-item-test.true c.item-item.is)
    (c.loop-item.invariant of judges there all)

pub returns : goal.returns
returns c = c.loop-item.invariant
