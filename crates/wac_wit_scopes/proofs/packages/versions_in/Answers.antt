use Rattle.indexmap.specs.IndexMap.{get_by_text}
use Rattle.wac_wit_scopes.specs.Naming.{KnowsNamesOf}
use Rattle.wac_wit_scopes.proofs.ScopeFacts.{All-next, All-end, KnowsNamesOf-kept}
use Rattle.wac_wit_scopes.proofs.packages.versions_in.Goals as goal

pub loop-document-preserved : goal.loop-document-preserved
loop-document-preserved c =
    let before = get_by_text c.loop-document.versions in
    let after = get_by_text c.add_document.new.versions in
    All-next c.args.documents.now c.loop-document.document-index (KnowsNamesOf before) (KnowsNamesOf after) c.document-item.result c.loop-document-test.true c.document-item.is
    (λ d h. KnowsNamesOf-kept before after d c.in_ok-add_document.ensures.keeps h) c.loop-document.invariant c.in_ok-add_document.ensures.knows

pub returns : goal.returns
returns c = All-end c.args.documents.now c.loop-document.document-index (KnowsNamesOf (get_by_text c.loop-document.versions)) c.loop-document-test.false c.loop-document.invariant
