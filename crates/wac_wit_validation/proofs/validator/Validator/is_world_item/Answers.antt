use Rattle.wac_wit_validation.proofs.WorldFacts.{IfOk-map}
use Rattle.wac_wit_validation.proofs.validator.Validator.is_world_item.Goals as goal

pub returns-in-Use-clause-covers : goal.returns-in-Use-clause-covers
returns-in-Use-clause-covers c = IfOk-map c.is_use.result _ _ c.is_use.ensures.covers (λ b told is s knows renames. rw c.in-Use.is (told is s knows renames))

pub returns-in-Type-clause-covers : goal.returns-in-Type-clause-covers
returns-in-Type-clause-covers c = λ is s knows renames. rw c.in-Type.is (c.is_type.ensures.covers is s knows renames)
