use Rattle.wac_wit_refusals_types.proofs.constructors.is_returned_place.Goals as goal

pub returns-else-stands_there : goal.returns-else-stands_there
returns-else-stands_there c = c.has_ok_there.ensures c.args.method.now
