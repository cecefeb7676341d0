use Rattle.std.specs.Borrow.{Bor}
use Rattle.wac_wit_syntax.specs.declared.tree.WorldItem.{WorldItem}
use Rattle.wac_wit_validation.specs.OriginClauses.{TellsWorldItemAt}
use Rattle.wac_wit_validation_types.proofs.MarkFacts.{AllBelow-contains, AllBelow-more, AllBelow-none}
use Rattle.wac_wit_validation.proofs.validator.Validator.tells_world_items.Goals as goal

pub loop-item-init : goal.loop-item-init
loop-item-init c = AllBelow-none (λ (b : Bor WorldItem). TellsWorldItemAt c.args.self.now c.args.scope c.args.noted.now b.now) c.args.items.now

pub loop-item-preserved : goal.loop-item-preserved
loop-item-preserved c = AllBelow-more (λ (b : Bor WorldItem). TellsWorldItemAt c.args.self.now c.args.scope c.args.noted.now b.now) c.args.items.now c.loop-item.item-index c.item-item.result c.loop-item-test.true c.item-item.is c.loop-item.invariant
    (c.in_ok-tells_world_item.ensures c.if-not-branch.false)

pub returns : goal.returns
returns c = λ is b among. AllBelow-contains (λ (b : Bor WorldItem). TellsWorldItemAt c.args.self.now c.args.scope c.args.noted.now b.now) c.args.items.now c.loop-item.item-index b c.loop-item-test.false c.loop-item.invariant among
