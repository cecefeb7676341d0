use Rattle.wac_wit_refusals.proofs.packages.names_another.Goals as goal

pub returns-in-Some : goal.returns-in-Some
returns-in-Some c is = record { other = c.in-Some.other; names = c.in-Some.is; differs = c.are_different.ensures is }
