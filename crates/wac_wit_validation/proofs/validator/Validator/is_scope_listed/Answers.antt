use Rattle.wac_wit_validation.proofs.validator.Validator.is_scope_listed.Goals as goal

pub returns-in-Some : goal.returns-in-Some
returns-in-Some c = λ is of knows known. (c.in-Some.of.now, c.in-Some.ensures.among, c.in-Some.ensures.is of known, c.are_items_listed.ensures is of knows)
