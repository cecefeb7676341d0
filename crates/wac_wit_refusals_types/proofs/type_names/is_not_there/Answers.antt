use Rattle.wac_wit_refusals_types.proofs.type_names.is_not_there.Goals as goal

pub returns : goal.returns
returns c is of knows = record { given = c.is_given.ensures c.if-not-is_given.false; no_type = c.no_type_there.ensures c.if-not-no_type_there.false of knows; no_use = c.no_use_there.ensures is of knows }
