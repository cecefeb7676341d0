use Rattle.wac_wit.proofs.reading.read_beside.Goals as goal

pub returns-in-Ok-check-clause-new : goal.returns-in-Ok-check-clause-new
returns-in-Ok-check-clause-new c = rw (c.into_wit.ensures, ← c.in-Ok.ensures.made) c.in-Ok-check.ensures.read

pub returns-in-Err-check-clause-refused : goal.returns-in-Err-check-clause-refused
returns-in-Err-check-clause-refused c = λ files parsed. c.in-Err-check.ensures.refused files c.args.new.now.features

pub returns-in-Err-check-2-clause-refused : goal.returns-in-Err-check-2-clause-refused
returns-in-Err-check-2-clause-refused c = λ files parsed. c.in-Err-check-2.ensures.refused c.args.new.now.files.now c.args.new.now.features

pub returns-in-Err-clause-told : goal.returns-in-Err-clause-told
returns-in-Err-clause-told c = λ files. c.in-Err.ensures.told

pub returns-in-Err-check-clause-told : goal.returns-in-Err-check-clause-told
returns-in-Err-check-clause-told c = λ files. c.in-Err-check.ensures.told files

pub returns-in-Err-check-2-clause-told : goal.returns-in-Err-check-2-clause-told
returns-in-Err-check-2-clause-told c = λ files. c.in-Err-check-2.ensures.told c.args.new.now.files.now
