use Rattle.wac_wit_refusals.specs.Reasons.{AreRefusedFor}
use Rattle.wac_wit.specs.Refusals.{TellsRefusals}
use Rattle.wac_wit.proofs.Listing.{err_told}
use Rattle.wac_wit.proofs.reading.read.Goals as goal

pub returns-clause-read : goal.returns-clause-read
returns-clause-read c = rw (c.into_wit.ensures, ← c.in_ok-resolved.ensures.made) c.in_ok-check.ensures.read

pub returns-in_err-check-clause-refused : goal.returns-in_err-check-clause-refused
returns-in_err-check-clause-refused c = λ parsed.
    let files = c.args.sources.now.files.now in
    let features = c.args.sources.now.features in
    err_told c.from_residual-in_err-check.result c.in_err-check.field-0.0 (AreRefusedFor files features) c.from_residual-in_err-check.ensures (c.in_err-check.ensures.refused files features)

pub returns-in_err-check-clause-told : goal.returns-in_err-check-clause-told
returns-in_err-check-clause-told c =
    let files = c.args.sources.now.files.now in
    err_told c.from_residual-in_err-check.result c.in_err-check.field-0.0 (TellsRefusals files) c.from_residual-in_err-check.ensures (c.in_err-check.ensures.told files)
