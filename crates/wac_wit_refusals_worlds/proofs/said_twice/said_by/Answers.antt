use Rattle.wac_wit_refusals_worlds.proofs.said_twice.said_by.Goals as goal

pub returns-in_ok-path_of-in-Import : goal.returns-in_ok-path_of-in-Import
returns-in_ok-path_of-in-Import c of knows = record { item = c.in-Import.it; is = c.in-Import.is; has = c.in_ok-path_of-in-Import.ensures of knows }

pub returns-in_ok-path_of-in-Export : goal.returns-in_ok-path_of-in-Export
returns-in_ok-path_of-in-Export c of knows = record { item = c.in-Export.it; is = c.in-Export.is; has = c.in_ok-path_of-in-Export.ensures of knows }
