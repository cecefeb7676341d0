use Rattle.wac_wit_refusals_worlds.proofs.brought.is_include_at.Goals as goal

pub returns-in-Include : goal.returns-in-Include
returns-in-Include c is = record { item = c.in-Include.it; is = c.in-Include.is; place = c.is_at.ensures is }
