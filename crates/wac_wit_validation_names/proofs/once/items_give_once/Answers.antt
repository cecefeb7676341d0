use Rattle.wac_wit_validation_names.specs.Once.{ItemGivesOnce}
use Rattle.wac_wit_scopes.proofs.ScopeFacts.{All-end, All-next}
use Rattle.wac_wit_validation_names.proofs.once.items_give_once.Goals as goal

pub loop-item-preserved : goal.loop-item-preserved
loop-item-preserved c =
    let once = ItemGivesOnce c.args.features.now in
    All-next c.args.items.now c.loop-item.item-index once once c.item-item.result c.loop-item-test.true c.item-item.is (λ t h. h) c.loop-item.invariant (c.in_ok-item_gives_once.ensures c.if-not-branch.false)

pub returns : goal.returns
returns c = λ is. All-end c.args.items.now c.loop-item.item-index (ItemGivesOnce c.args.features.now) c.loop-item-test.false c.loop-item.invariant
