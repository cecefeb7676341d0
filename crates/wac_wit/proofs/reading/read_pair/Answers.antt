use Rattle.wac_wit.specs.Reading.{IsPairRefused}
use Rattle.wac_wit.specs.Refusals.{TellsPairRefusals}
use Rattle.wac_wit.proofs.Listing.{err_told}
use Rattle.wac_wit.proofs.reading.read_pair.Goals as goal

pub returns-clause-old : goal.returns-clause-old
returns-clause-old c = rw (c.into_wit.ensures, ← c.in-Ok.ensures.made) c.in_ok-new.ensures.old

pub returns-in_err-new-clause-refused : goal.returns-in_err-new-clause-refused
returns-in_err-new-clause-refused c = λ parsed.
    err_told c.from_residual.result c.in_err-new.field-0.0 (IsPairRefused c.args.old.now.files.now c.args.new.now c.args.old.now.features) c.from_residual.ensures (c.in_err-new.ensures.refused c.args.old.now.files.now)

pub returns-in_err-new-clause-told : goal.returns-in_err-new-clause-told
returns-in_err-new-clause-told c =
    err_told c.from_residual.result c.in_err-new.field-0.0 (TellsPairRefusals c.args.old.now.files.now c.args.new.now) c.from_residual.ensures (c.in_err-new.ensures.told c.args.old.now.files.now)
