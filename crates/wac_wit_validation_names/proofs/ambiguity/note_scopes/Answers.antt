use Rattle.indexmap.specs.IndexMap.{get_by_text}
use Rattle.wac_wit_validation_names.proofs.AmbiguityFacts.{EachBelow-end, EachBelow-more, NotesScope, NotesScope-grown}
use Rattle.wac_wit_validation_names.proofs.ambiguity.note_scopes.Goals as goal

pub loop-index-preserved : goal.loop-index-preserved
loop-index-preserved c =
    let before = get_by_text c.loop-index.noted in
    let after = get_by_text c.note_items.new.noted in
    let scopes = c.args.scopes.now in
    EachBelow-more scopes (NotesScope before) (NotesScope after) c.loop-index.index c.index-scopes-index.result c.loop-index-test.true c.index-scopes-index.is
    (NotesScope-grown before after (c.in_ok-note_items.ensures.grows c.if-not-branch.false)) (c.in_ok-note_items.ensures.notes c.if-not-branch.false) c.loop-index.invariant

pub returns : goal.returns
returns c = λ is. EachBelow-end c.args.scopes.now (NotesScope (get_by_text c.loop-index.noted)) c.loop-index.index c.loop-index-test.false c.loop-index.invariant
