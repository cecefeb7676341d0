use Rattle.indexmap.specs.IndexMap.{get_by_text}
use Rattle.wac_wit_validation_names.specs.WorldOnce.{GivesLayer}
use Rattle.wac_wit_validation_names.proofs.AmbiguityFacts.{EachBelow-end, EachBelow-more, EachBelow-none}
use Rattle.wac_wit_validation_names.proofs.GivenFacts.{GivesLayer-kept}
use Rattle.wac_wit_validation_names.proofs.worlds_once.give_layers.Goals as goal

pub loop-index-init : goal.loop-index-init
loop-index-init c = λ of on. EachBelow-none c.args.layers.now (GivesLayer of (get_by_text c.args.given.now) c.args.kind)

pub loop-index-preserved : goal.loop-index-preserved
loop-index-preserved c = λ of on.
    let before = get_by_text c.loop-index.given in
    let after = get_by_text c.give_layer.new.given in
    EachBelow-more c.args.layers.now (GivesLayer of before c.args.kind) (GivesLayer of after c.args.kind) c.loop-index.index c.index-layers-index.result c.loop-index-test.true c.index-layers-index.is
    (GivesLayer-kept before after (c.in_ok-give_layer.ensures.grows c.if-not-branch.false) of c.args.kind) (c.in_ok-give_layer.ensures.gives c.if-not-branch.false of on) (c.loop-index.invariant of on)

pub returns : goal.returns
returns c = λ is of on. EachBelow-end c.args.layers.now (GivesLayer of (get_by_text c.loop-index.given) c.args.kind) c.loop-index.index c.loop-index-test.false (c.loop-index.invariant of on)
