use Rattle.wac_wit_changes.proofs.packages.compared.Goals as goal

pub returns : goal.returns
returns c = c.compared_with.ensures
