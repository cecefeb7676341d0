use Rattle.indexmap.specs.IndexMap.{get_by_text}
use Rattle.wac_wit_validation_names.specs.Once.{GivesInnerAt}
use Rattle.wac_wit_validation_names.proofs.AmbiguityFacts.{EachBelow-end, EachBelow-more, EachBelow-none}
use Rattle.wac_wit_validation_names.proofs.OnceFacts.{GivesInnerAt-kept}
use Rattle.wac_wit_validation_names.proofs.once.give_inside.Goals as goal

pub loop-index-init : goal.loop-index-init
loop-index-init c = λ of on. EachBelow-none c.args.items.now (GivesInnerAt of (get_by_text c.args.given.now))

pub loop-index-preserved : goal.loop-index-preserved
loop-index-preserved c = λ of on.
    let before = get_by_text c.loop-index.given in
    let after = get_by_text c.give_inner.new.given in
    EachBelow-more c.args.items.now (GivesInnerAt of before) (GivesInnerAt of after) c.loop-index.index c.index-items-index.result c.loop-index-test.true c.index-items-index.is
    (GivesInnerAt-kept of before after (c.in_ok-give_inner.ensures.grows c.if-not-branch.false)) (c.in_ok-give_inner.ensures.gives c.if-not-branch.false of on) (c.loop-index.invariant of on)

pub returns : goal.returns
returns c = λ is of on. EachBelow-end c.args.items.now (GivesInnerAt of (get_by_text c.loop-index.given)) c.loop-index.index c.loop-index-test.false (c.loop-index.invariant of on)
