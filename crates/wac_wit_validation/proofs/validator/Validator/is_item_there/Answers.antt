use Rattle.wac_wit_validation.proofs.WorldFacts.{IfOk-map}
use Rattle.wac_wit_validation.proofs.validator.Validator.is_item_there.Goals as goal

pub returns-in-Use : goal.returns-in-Use
returns-in-Use c = IfOk-map c.is_used_there.result _ _ c.is_used_there.ensures (λ b told is. rw c.in-Use.is (told is))
