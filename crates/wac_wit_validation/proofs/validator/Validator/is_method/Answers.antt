use Rattle.wac_wit_validation.proofs.validator.Validator.is_method.Goals as goal

pub returns-else-not-is_there-clause-marks : goal.returns-else-not-is_there-clause-marks
returns-else-not-is_there-clause-marks c = λ same own s knows offers. c.is_next_method.ensures.marks same own s (offers ((c.is_there.ensures s.sources knows).0 c.if-not-is_there.false))
