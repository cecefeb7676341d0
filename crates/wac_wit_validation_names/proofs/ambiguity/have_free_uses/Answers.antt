use Rattle.indexmap.specs.IndexMap.{get_by_text}
use Rattle.wac_wit_validation_names.proofs.AmbiguityFacts.{EachBelow-end, EachBelow-more, FreesScope}
use Rattle.wac_wit_validation_names.proofs.ambiguity.have_free_uses.Goals as goal

pub loop-index-preserved : goal.loop-index-preserved
loop-index-preserved c =
    let frees = FreesScope (get_by_text c.args.noted.now) in
    EachBelow-more c.args.scopes.now frees frees c.loop-index.index c.index-scopes-index.result c.loop-index-test.true c.index-scopes-index.is
    (λ j w h. h) (c.in_ok-has_free_uses.ensures c.if-not-branch.false) c.loop-index.invariant

pub returns : goal.returns
returns c = λ is. EachBelow-end c.args.scopes.now (FreesScope (get_by_text c.args.noted.now)) c.loop-index.index c.loop-index-test.false c.loop-index.invariant
