use Rattle.wac_wit.proofs.reading.resolve.Goals as goal

pub returns-clause-refused : goal.returns-clause-refused
returns-clause-refused c = λ parsed. c.told.ensures.refused _ (c.confirmed.ensures.holds parsed)
