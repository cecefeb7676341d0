use Rattle.std.specs.Borrow.{Bor}
use Rattle.wac_wit_syntax.specs.declared.tree.WorldItem.{WorldItem}
use Rattle.wac_wit_validation.specs.WorldClauses.{CoversItem}
use Rattle.wac_wit_validation_types.proofs.MarkFacts.{AllBelow-contains, AllBelow-more, AllBelow-none, among_at}
use Rattle.wac_wit_validation.proofs.validator.Validator.mark_named.Goals as goal

pub loop-item-init : goal.loop-item-init
loop-item-init c = record {
  marks = λ one of w x rss comes items marks. marks;
  covers = AllBelow-none (λ (b : Bor WorldItem). CoversItem c.args.self.now c.args.side.now b.now) c.args.items.now;
}

pub loop-item-preserved : goal.loop-item-preserved
loop-item-preserved c = record {
  marks = λ one of w x rss comes items marks. c.in_ok-mark_item.ensures.marks c.if-not-branch.false one of w x rss comes (items c.item-item.result (among_at c.args.items.now c.loop-item.item-index c.item-item.result c.loop-item-test.true c.item-item.is)) (c.loop-item.invariant.marks one of w x rss comes items marks);
  covers = AllBelow-more (λ (b : Bor WorldItem). CoversItem c.args.self.now c.args.side.now b.now) c.args.items.now c.loop-item.item-index c.item-item.result c.loop-item-test.true c.item-item.is c.loop-item.invariant.covers (c.in_ok-mark_item.ensures.covers c.if-not-branch.false);
}

pub returns-clause-covers : goal.returns-clause-covers
returns-clause-covers c = λ is b among. AllBelow-contains (λ (b : Bor WorldItem). CoversItem c.args.self.now c.args.side.now b.now) c.args.items.now c.loop-item.item-index b c.loop-item-test.false c.loop-item.invariant.covers among
