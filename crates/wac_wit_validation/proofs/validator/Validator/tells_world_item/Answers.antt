use Rattle.wac_wit_validation.proofs.validator.Validator.tells_world_item.Goals as goal

pub returns-in-Use : goal.returns-in-Use
returns-in-Use c = rw c.in-Use.is c.tells_use.ensures

pub returns-in-Type : goal.returns-in-Type
returns-in-Type c = λ is s at renames. rw c.in-Type.is (λ there. c.tells_typedef.ensures is s.sources at.knows there s.renames renames)
