use Rattle.std.proofs.Common.{refl, sym, subst, Contains, List}
use Rattle.wac_component.specs.Content.{named}
use Rattle.wac_wit_syntax.specs.declared.tree.WorldItem.{WorldItem}
use Rattle.wac_wit_validation.specs.WorldClauses.{CoversPathItem}
use Rattle.wac_wit_validation_types.specs.Worlds.{extern_item}
use Rattle.wac_wit_validation_types.proofs.MarkFacts.{AllBelow-contains, AllBelow-more, AllBelow-none, among_at}
use Rattle.wac_wit_validation.proofs.validator.Validator.mark_paths.Goals as goal

pub loop-item-init : goal.loop-item-init
loop-item-init c = record {
  marks = λ of w at items marks. marks;
  covers = AllBelow-none (CoversPathItem c.args.self.now c.args.scope c.args.kind (named (λ k. k) c.args.externs.now.entries)) c.args.items.now;
}

pub loop-item-preserved : goal.loop-item-preserved
loop-item-preserved c = record {
  marks = λ of w at items marks. c.in_ok-mark_path_item.ensures.marks c.if-not-branch.false of w at (subst (λ (l : List WorldItem). Contains l c.item-item.result) (sym items) (among_at c.args.items.now c.loop-item.item-index c.item-item.result c.loop-item-test.true c.item-item.is)) (c.loop-item.invariant.marks of w at items marks);
  covers = AllBelow-more (CoversPathItem c.args.self.now c.args.scope c.args.kind (named (λ k. k) c.args.externs.now.entries)) c.args.items.now c.loop-item.item-index c.item-item.result c.loop-item-test.true c.item-item.is c.loop-item.invariant.covers (c.in_ok-mark_path_item.ensures.covers c.if-not-branch.false);
}

pub returns-clause-covers : goal.returns-clause-covers
returns-clause-covers c = λ is of w at e among there. AllBelow-contains (CoversPathItem c.args.self.now c.args.scope c.args.kind (named (λ k. k) c.args.externs.now.entries)) c.args.items.now c.loop-item.item-index (extern_item c.args.kind e) c.loop-item-test.false c.loop-item.invariant.covers among of w at e refl there
