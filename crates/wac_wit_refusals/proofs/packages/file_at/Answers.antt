use Rattle.std.proofs.Common.{refl}
use Rattle.wac_wit_scopes.proofs.PathFacts.{read_at}
use Rattle.wac_wit_scopes.proofs.ScopeFacts.{source_at}
use Rattle.wac_wit_refusals.proofs.packages.file_at.Goals as goal

pub returns : goal.returns
returns c =
    let files = c.args.sources.now.files.now in
    let documents = c.args.sources.now.documents.now in
    let file = c.in_ok-file.file.now in
    let document = c.in_ok-document.document.now in (
      refl,
      source_at files documents c.args.sources.now.features c.args.index file document (read_at files c.args.index file file c.in_ok-file.ensures.lookup.0 c.in_ok-file.ensures.lookup.1 refl)
          (read_at documents c.args.index document document c.in_ok-document.ensures.lookup.0 c.in_ok-document.ensures.lookup.1 refl),
    )
