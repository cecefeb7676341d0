use Rattle.wac_component.specs.Content.{world_content}
use Rattle.wac_wit_validation.specs.WorldClauses.{CoversLayer}
use Rattle.wac_wit_validation_types.proofs.MarkFacts.{AllBelow-contains, AllBelow-more, AllBelow-none, among_at}
use Rattle.wac_wit_validation.proofs.validator.Validator.are_layers.Goals as goal

pub loop-index-init : goal.loop-index-init
loop-index-init c = record {
  marks = λ of w knows each old. old;
  covers = AllBelow-none (CoversLayer c.args.self.now (world_content c.args.entry.now)) c.args.layers.now;
}

pub loop-index-preserved : goal.loop-index-preserved
loop-index-preserved c =
    let layer = c.index-layers-index.result in
    let among = among_at c.args.layers.now c.loop-index.index layer c.loop-index-test.true c.index-layers-index.is in
    record {
      marks = λ of w knows each old. c.in_ok-is_layer.ensures.marks c.if-not-branch.false of w knows (each layer among) (c.loop-index.invariant.marks of w knows each old);
      covers = AllBelow-more (CoversLayer c.args.self.now (world_content c.args.entry.now)) c.args.layers.now c.loop-index.index layer c.loop-index-test.true c.index-layers-index.is c.loop-index.invariant.covers (c.in_ok-is_layer.ensures.covers c.if-not-branch.false);
    }

pub returns-clause-covers : goal.returns-clause-covers
returns-clause-covers c = λ is l among. AllBelow-contains (CoversLayer c.args.self.now (world_content c.args.entry.now)) c.args.layers.now c.loop-index.index l c.loop-index-test.false c.loop-index.invariant.covers among
