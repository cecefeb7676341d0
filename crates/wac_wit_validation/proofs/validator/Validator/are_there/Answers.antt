use Rattle.std.proofs.Common.{[], ◌∷◌}
use Rattle.wac_wit_syntax.specs.declared.tree.InterfaceItem.{InterfaceItem}
use Rattle.wac_component.specs.Content.{world_content}
use Rattle.wac_component.proofs.Among.{Contains-first}
use Rattle.wac_wit_syntax.specs.declared.tree.InterfaceItem.TheVariants as inside
use Rattle.wac_wit_validation_types.specs.Denoted.{uses_in}
use Rattle.wac_wit_validation.specs.WorldChecking.{UsesAreThere}
use Rattle.wac_wit_validation_types.proofs.ItemFacts.{use_back}
use Rattle.wac_wit_validation_types.proofs.MarkFacts.{AllBelow-contains, AllBelow-more, AllBelow-none}
use Rattle.wac_wit_validation.proofs.validator.Validator.are_there.Goals as goal

pub loop-item-init : goal.loop-item-init
loop-item-init c = AllBelow-none (λ (x : InterfaceItem). UsesAreThere c.args.self.now c.args.scope (world_content c.args.entry.now) (uses_in (x ∷ [])) c.args.marks.now) c.args.items.now

pub loop-item-preserved : goal.loop-item-preserved
loop-item-preserved c = AllBelow-more (λ (x : InterfaceItem). UsesAreThere c.args.self.now c.args.scope (world_content c.args.entry.now) (uses_in (x ∷ [])) c.args.marks.now) c.args.items.now c.loop-item.item-index c.item-item.result c.loop-item-test.true c.item-item.is c.loop-item.invariant (c.in_ok-is_item_there.ensures c.if-not-branch.false)

pub returns : goal.returns
returns c = λ is of w x at marks i uses.
    AllBelow-contains (λ (y : InterfaceItem). UsesAreThere c.args.self.now c.args.scope (world_content c.args.entry.now) (uses_in (y ∷ [])) c.args.marks.now) c.args.items.now c.loop-item.item-index (inside.Use uses.item) c.loop-item-test.false c.loop-item.invariant (use_back uses.item c.args.items.now uses.among) of w x at marks i
    (record { item = uses.item; name = uses.name; among = Contains-first uses.item []; there = uses.there; within = uses.within; leads = uses.leads })
