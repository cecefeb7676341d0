use Rattle.wac_wit_refusals_worlds.proofs.brought.are_twins_by.Goals as goal

pub returns-then-name-index : goal.returns-then-name-index
returns-then-name-index c is = record { by = c.if-name-index.true; twins = c.are_twins.ensures is }
