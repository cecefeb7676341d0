use Rattle.wac_component.specs.Content.{named, use_content}
use Rattle.wac_wit_validation.specs.OriginClauses.{TellsLayer}
use Rattle.wac_wit_validation_types.proofs.MarkFacts.{AllBelow-contains, AllBelow-more, AllBelow-none}
use Rattle.wac_wit_validation.proofs.validator.Validator.tells_layers.Goals as goal

pub loop-layer-init : goal.loop-layer-init
loop-layer-init c = AllBelow-none (TellsLayer c.args.self.now (named use_content c.args.uses.now.entries)) c.args.layers.now

pub loop-layer-preserved : goal.loop-layer-preserved
loop-layer-preserved c = AllBelow-more (TellsLayer c.args.self.now (named use_content c.args.uses.now.entries)) c.args.layers.now c.loop-layer.layer-index c.layer-item.result c.loop-layer-test.true c.layer-item.is c.loop-layer.invariant
    (c.in_ok-tells_layer.ensures c.if-not-branch.false)

pub returns : goal.returns
returns c = λ is l among. AllBelow-contains (TellsLayer c.args.self.now (named use_content c.args.uses.now.entries)) c.args.layers.now c.loop-layer.layer-index l c.loop-layer-test.false c.loop-layer.invariant among
