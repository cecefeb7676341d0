use Rattle.wac_wit_refusals_types.proofs.names_twice.are_methods_twice.Goals as goal

pub returns-then-is_apart : goal.returns-then-is_apart
returns-then-is_apart c is = record { apart = c.is_apart.ensures c.if-is_apart.true; one = c.are_one.ensures is }
