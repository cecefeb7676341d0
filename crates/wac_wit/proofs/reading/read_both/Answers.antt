use Rattle.std.proofs.Common.{subst, sym}
use Rattle.wac_wit_scopes.specs.Parsed.{AreParsed}
use Rattle.wac_wit.proofs.Listing.{told_of}
use Rattle.wac_wit.proofs.reading.read_both.Goals as goal

pub returns-clause-old : goal.returns-clause-old
returns-clause-old c = told_of c.read_pair.result _ _ c.read_pair.ensures.old (λ pair listed. record { documents = c.deref.result.now; parsed = subst (AreParsed c.args.old.now) (sym c.deref.ensures.value) c.in-Ok.ensures.read; listed = listed })

pub returns-in-Err-clause-refused : goal.returns-in-Err-clause-refused
returns-in-Err-clause-refused c = c.in-Err.ensures.refused c.args.features

pub returns-in-Err-clause-told : goal.returns-in-Err-clause-told
returns-in-Err-clause-told c = c.in-Err.ensures.told

pub returns-clause-told : goal.returns-clause-told
returns-clause-told c = c.read_pair.ensures.told
