use Rattle.std.proofs.Common.{refl, sym, subst, Contains, List}
use Rattle.wac_wit_syntax.specs.declared.tree.WorldItem.{WorldItem}
use Rattle.wac_component.specs.Content.{world_content}
use Rattle.wac_wit_syntax.specs.declared.tree.WorldItem.TheVariants as of_world
use Rattle.wac_wit_validation.specs.WorldChecking.{HasInterfacesOf}
use Rattle.wac_wit_validation_types.proofs.MarkFacts.{AllBelow-contains, AllBelow-more, AllBelow-none, among_at}
use Rattle.wac_wit_validation.proofs.validator.Validator.mark_included.Goals as goal

pub loop-item-init : goal.loop-item-init
loop-item-init c = record {
  marks = λ of w at items marks. marks;
  covers = λ of w at. AllBelow-none (HasInterfacesOf of w (world_content c.args.entry.now)) c.args.items.now;
}

pub loop-item-preserved : goal.loop-item-preserved
loop-item-preserved c = record {
  marks = λ of w at items marks. c.if-not-mark_item_included.ensures.marks refl of w at (subst (λ (l : List WorldItem). Contains l c.item-item.result) (sym items) (among_at c.args.items.now c.loop-item.item-index c.item-item.result c.loop-item-test.true c.item-item.is)) (c.loop-item.invariant.marks of w at items marks);
  covers = λ of w at. AllBelow-more (HasInterfacesOf of w (world_content c.args.entry.now)) c.args.items.now c.loop-item.item-index c.item-item.result c.loop-item-test.true c.item-item.is (c.loop-item.invariant.covers of w at) (c.if-not-mark_item_included.ensures.covers refl of w at);
}

pub returns-clause-covers : goal.returns-clause-covers
returns-clause-covers c = λ is of w at items x i says. AllBelow-contains (HasInterfacesOf of w.scope (world_content c.args.entry.now)) c.args.items.now c.loop-item.item-index (of_world.Include i) c.loop-item-test.false (c.loop-item.invariant.covers of w.scope at)
    (subst (λ (l : List WorldItem). Contains l (of_world.Include i)) items says.among) says.there x says.leads
