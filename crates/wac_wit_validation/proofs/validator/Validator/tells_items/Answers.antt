use Rattle.wac_wit_validation.specs.OriginClauses.{TellsItemAt}
use Rattle.wac_wit_validation_types.proofs.MarkFacts.{AllBelow-contains, AllBelow-more, AllBelow-none}
use Rattle.wac_wit_validation.proofs.validator.Validator.tells_items.Goals as goal

pub loop-item-init : goal.loop-item-init
loop-item-init c = AllBelow-none (TellsItemAt c.args.self.now c.args.scope c.args.noted.now) c.args.items.now

pub loop-item-preserved : goal.loop-item-preserved
loop-item-preserved c = AllBelow-more (TellsItemAt c.args.self.now c.args.scope c.args.noted.now) c.args.items.now c.loop-item.item-index c.item-item.result c.loop-item-test.true c.item-item.is c.loop-item.invariant
    (c.in_ok-tells_item.ensures c.if-not-branch.false)

pub returns : goal.returns
returns c = λ is x among. AllBelow-contains (TellsItemAt c.args.self.now c.args.scope c.args.noted.now) c.args.items.now c.loop-item.item-index x c.loop-item-test.false c.loop-item.invariant among
