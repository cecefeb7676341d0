use Rattle.wac_wit_validation.proofs.validator.Validator.is_type.Goals as goal

pub returns-in-Some-clause-covers : goal.returns-in-Some-clause-covers
returns-in-Some-clause-covers c = λ same s knows renames there. (c.in-Some.ensures.named, c.are_methods.ensures.covers same s knows renames)
