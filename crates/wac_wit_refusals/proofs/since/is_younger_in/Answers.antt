use Rattle.wac_wit_refusals.proofs.since.is_younger_in.Goals as goal

pub returns-in-Some : goal.returns-in-Some
returns-in-Some c is = record { since = c.in-Some.since.now; says = c.in-Some.ensures; above = c.is_above_package.ensures is }
