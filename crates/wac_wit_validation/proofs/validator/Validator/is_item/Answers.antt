use Rattle.wac_wit_validation.proofs.validator.Validator.is_item.Goals as goal

pub returns-in-Use-clause-covers : goal.returns-in-Use-clause-covers
returns-in-Use-clause-covers c = rw c.in-Use.is c.is_use.ensures.covers

pub returns-in-Type-clause-covers : goal.returns-in-Type-clause-covers
returns-in-Type-clause-covers c = λ same s knows renames. rw c.in-Type.is (c.is_type.ensures.covers same s knows renames)

pub returns-in-Func-clause-covers : goal.returns-in-Func-clause-covers
returns-in-Func-clause-covers c = λ same s knows renames. rw c.in-Func.is (c.is_func.ensures.covers same s.sources knows)
