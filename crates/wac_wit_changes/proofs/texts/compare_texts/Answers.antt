use Rattle.wac_wit_changes.proofs.texts.compare_texts.Goals as goal

pub returns-in-Ok-clause-refused : goal.returns-in-Ok-clause-refused
returns-in-Ok-clause-refused c = c.compare_pair.ensures.refused c.args.features
