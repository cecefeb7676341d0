use Rattle.std.proofs.Common.{subst, sym}
use Rattle.wac_wit_scopes.specs.Parsed.{AreParsed}
use Rattle.wac_wit.proofs.Listing.{told_of}
use Rattle.wac_wit.proofs.reading.read_new.Goals as goal

pub returns-clause-new : goal.returns-clause-new
returns-clause-new c = told_of c.read_beside.result _ _ c.read_beside.ensures.new (λ wit listed. record { documents = c.deref.result.now; parsed = subst (AreParsed c.args.new.now) (sym c.deref.ensures.value) c.in-Ok.ensures.read; listed = listed })

pub returns-in-Err-clause-refused : goal.returns-in-Err-clause-refused
returns-in-Err-clause-refused c = λ files. c.in-Err.ensures.refused c.args.features

pub returns-clause-refused : goal.returns-clause-refused
returns-clause-refused c = λ files. c.read_beside.ensures.refused files (subst (AreParsed c.args.new.now) (sym c.deref.ensures.value) c.in-Ok.ensures.read)

pub returns-in-Err-clause-told : goal.returns-in-Err-clause-told
returns-in-Err-clause-told c = λ files. c.in-Err.ensures.told

pub returns-clause-told : goal.returns-clause-told
returns-clause-told c = λ files. c.read_beside.ensures.told files
