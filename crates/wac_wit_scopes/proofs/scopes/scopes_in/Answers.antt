use Rattle.std.proofs.Common.{◌∙◌, ap, is_some, nat_eq, refl, sym}
use Rattle.std.proofs.lemmas.Option.{slice_get_read}
use Rattle.indexmap.specs.IndexMap.{get}
use Rattle.wac_wit_scopes.specs.WitSources.{sources_of}
use Rattle.wac_wit_scopes.proofs.AllScopes.{HasScopesBelow-end, HasScopesBelow-more}
use Rattle.wac_wit_scopes.proofs.PathFacts.{read_at}
use Rattle.wac_wit_scopes.proofs.ScopeFacts.{source_at}
use Rattle.wac_wit_scopes.proofs.scopes.scopes_in.Goals as goal

pub loop-index-preserved : goal.loop-index-preserved
loop-index-preserved c =
    let files = c.args.files.now in
    let documents = c.args.documents.now in
    let index = c.loop-index.index in
    let file = c.in-Some.file.now in
    let document = c.index-documents-index.result in
    let file_at = read_at files index file file c.in-Some.ensures.lookup.0 c.in-Some.ensures.lookup.1 refl in
    let document_at = slice_get_read documents _ index document refl c.loop-index-test.true c.index-documents-index.is in
    let done = c.in_ok-push_document.ensures in
    record {
      known = λ features groups knows.
          let named = groups file.group c.in-Some-get.package.now (sym c.in-Some-get.ensures.value) in
          done.known (sources_of files documents features) (source_at files documents features index file document file_at document_at, named) knows (c.loop-index.invariant.known features groups knows);
      all = HasScopesBelow-more files documents (get nat_eq c.args.groups.now) c.loop-index.scopes.items c.push_document.new.scopes.items index file document c.in-Some-get.package.now file_at document_at done.keeps (sym c.in-Some-get.ensures.value) done.has c.loop-index.invariant.all;
    }

pub returns-clause-known : goal.returns-clause-known
returns-clause-known c = c.loop-index.invariant.known

pub returns-clause-all : goal.returns-clause-all
returns-clause-all c = HasScopesBelow-end c.args.files.now c.args.documents.now (get nat_eq c.args.groups.now) c.loop-index.scopes.items c.loop-index.index c.loop-index-test.false c.loop-index.invariant.all

pub returns-in_default-get-clause-clear : goal.returns-in_default-get-clause-clear
returns-in_default-get-clause-clear c = λ enough known.
    let files = c.args.files.now in
    let documents = c.args.documents.now in
    let index = c.loop-index.index in
    let file = c.in-Some.file.now in
    let document = c.index-documents-index.result in
    let file_at = read_at files index file file c.in-Some.ensures.lookup.0 c.in-Some.ensures.lookup.1 refl in
    let document_at = slice_get_read documents _ index document refl c.loop-index-test.true c.index-documents-index.is in
    ap is_some c.in_default-get.ensures.value ∙ known index file document file_at document_at
