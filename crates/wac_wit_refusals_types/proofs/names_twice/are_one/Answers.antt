use Rattle.wac_wit_refusals_types.proofs.names_twice.are_one.Goals as goal

pub returns-then-have_one_name : goal.returns-then-have_one_name
returns-then-have_one_name c is = record { named = c.have_one_name.ensures c.if-have_one_name.true; alike = c.make_alike.ensures is }
