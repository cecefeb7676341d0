use Rattle.wac_wit_syntax.specs.declared.tree.TopItem.{TopItem}
use Rattle.wac_wit_validation.specs.Listing.{IsItemListed}
use Rattle.wac_wit_validation_types.proofs.MarkFacts.{AllBelow-contains, AllBelow-more, AllBelow-none}
use Rattle.wac_wit_validation.proofs.validator.Validator.are_items_listed.Goals as goal
use Rattle.std.proofs.Common.{refl}

pub loop-item-init : goal.loop-item-init
loop-item-init c = λ of knows. AllBelow-none (λ (t : TopItem). IsItemListed of c.args.listed.now t) c.args.items.now

pub loop-item-preserved : goal.loop-item-preserved
loop-item-preserved c = λ of knows. AllBelow-more (λ (t : TopItem). IsItemListed of c.args.listed.now t) c.args.items.now c.loop-item.item-index c.item-item.result c.loop-item-test.true c.item-item.is (c.loop-item.invariant of knows) (c.if-not-is_item_listed.ensures refl of knows)

pub returns : goal.returns
returns c = λ is of knows t among. AllBelow-contains (λ (t : TopItem). IsItemListed of c.args.listed.now t) c.args.items.now c.loop-item.item-index t c.loop-item-test.false (c.loop-item.invariant of knows) among
