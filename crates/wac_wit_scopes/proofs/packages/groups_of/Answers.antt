use Rattle.std.proofs.Common.{◌∙◌, nat_eq, refl, sym}
use Rattle.std.proofs.lemmas.Option.{slice_get_read}
use Rattle.indexmap.specs.IndexMap.{get}
use Rattle.wac_wit_scopes.specs.WitSources.{sources_of}
use Rattle.wac_wit_scopes.proofs.AllScopes.{HasGroupsBelow-end, HasGroupsBelow-more, one_package}
use Rattle.wac_wit_scopes.proofs.PathFacts.{read_at}
use Rattle.wac_wit_scopes.proofs.ScopeFacts.{file_among}
use Rattle.wac_wit_scopes.proofs.packages.groups_of.Goals as goal

pub loop-index-preserved : goal.loop-index-preserved
loop-index-preserved c =
    let files = c.args.files.now in
    let documents = c.args.documents.now in
    let index = c.loop-index.index in
    let file = c.in-Some.file.now in
    let document = c.index-documents-index.result in
    let file_at = read_at files index file file c.in-Some.ensures.lookup.0 c.in-Some.ensures.lookup.1 refl in
    let document_at = slice_get_read documents _ index document refl c.loop-index-test.true c.index-documents-index.is in
    record {
      named = λ features. c.in_ok-add_file.ensures.named (sources_of files documents features) (file_among files documents features index file document file_at document_at) (c.loop-index.invariant.named features);
      all = HasGroupsBelow-more files documents (get nat_eq c.loop-index.groups) (get nat_eq c.add_file.new.groups) index file document file_at document_at c.in_ok-add_file.ensures.keeps (c.in_ok-add_file.ensures.has c.if-not-branch.false) c.loop-index.invariant.all;
    }

pub returns-clause-named : goal.returns-clause-named
returns-clause-named c = c.loop-index.invariant.named

pub returns-clause-all : goal.returns-clause-all
returns-clause-all c = HasGroupsBelow-end c.args.files.now c.args.documents.now (get nat_eq c.loop-index.groups) c.loop-index.index c.loop-index-test.false c.loop-index.invariant.all

pub returns-then-not-branch-clause-clear : goal.returns-then-not-branch-clause-clear
returns-then-not-branch-clause-clear c = λ features same. (
  λ some. absurd (cc),
  λ one.
      let files = c.args.files.now in
      let documents = c.args.documents.now in
      let index = c.loop-index.index in
      let file = c.in-Some.file.now in
      let document = c.index-documents-index.result in
      let file_at = read_at files index file file c.in-Some.ensures.lookup.0 c.in-Some.ensures.lookup.1 refl in
      let document_at = slice_get_read documents _ index document refl c.loop-index-test.true c.index-documents-index.is in
      sym c.if-not-branch.true ∙ c.in_ok-add_file.ensures.clear (sources_of files documents features)
      (file_among files documents features index file document file_at document_at) (c.loop-index.invariant.named features) one,
)

pub returns-clause-clear : goal.returns-clause-clear
returns-clause-clear c = λ features same.
    let files = c.args.files.now in
    let documents = c.args.documents.now in
    let known = get nat_eq c.loop-index.groups in
    (λ some. one_package files documents features known (HasGroupsBelow-end files documents known c.loop-index.index c.loop-index-test.false c.loop-index.invariant.all), λ one. refl)
