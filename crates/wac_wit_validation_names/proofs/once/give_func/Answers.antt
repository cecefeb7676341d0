use Rattle.std.proofs.lemmas.Result.{IfOk-weaker}
use Rattle.wac_wit_validation_names.proofs.once.give_func.Goals as goal

pub returns-then-not-is_enabled-clause-gives : goal.returns-then-not-is_enabled-clause-gives
returns-then-not-is_enabled-clause-gives c = λ is of on there. let no = (c.is_enabled.ensures of on).1 there in absurd (cc)

pub returns-clause-gives : goal.returns-clause-gives
returns-clause-gives c = IfOk-weaker c.give_name.result _ _ (λ b h is of on there. h is) c.give_name.ensures.gives
