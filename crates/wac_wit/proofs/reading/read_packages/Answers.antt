use Rattle.std.proofs.Common.{subst, sym}
use Rattle.wac_wit_refusals.specs.Reasons.{AreRefusedFor}
use Rattle.wac_wit_scopes.specs.Parsed.{AreParsed}
use Rattle.wac_wit.specs.Refusals.{TellsRefusals}
use Rattle.wac_wit.proofs.Listing.{err_told, told_of}
use Rattle.wac_wit.proofs.reading.read_packages.Goals as goal

pub returns-clause-read : goal.returns-clause-read
returns-clause-read c = told_of c.read.result _ _ c.read.ensures.read (λ wit listed. record { documents = c.deref.result.now; parsed = subst (AreParsed c.args.files.now) (sym c.deref.ensures.value) c.in_ok-documents.ensures.read; listed = listed })

pub returns-clause-refused : goal.returns-clause-refused
returns-clause-refused c = c.read.ensures.refused (subst (AreParsed c.args.files.now) (sym c.deref.ensures.value) c.in_ok-documents.ensures.read)

pub returns-in_err-documents-clause-refused : goal.returns-in_err-documents-clause-refused
returns-in_err-documents-clause-refused c = err_told c.from_residual.result c.in_err-documents.field-0.0 (AreRefusedFor c.args.files.now c.args.features) c.from_residual.ensures (c.in_err-documents.ensures.refused c.args.features)

pub returns-in_err-documents-clause-told : goal.returns-in_err-documents-clause-told
returns-in_err-documents-clause-told c = err_told c.from_residual.result c.in_err-documents.field-0.0 (TellsRefusals c.args.files.now) c.from_residual.ensures c.in_err-documents.ensures.told
