use Rattle.std.proofs.lemmas.Result.{IfOk-weaker}
use Rattle.indexmap.specs.IndexMap.{get_by_text}
use Rattle.wac_wit_validation_names.proofs.once.gives_once.Goals as goal

pub returns : goal.returns
returns c = IfOk-weaker c.give_inside.result _ _ (λ b h is of on. record { given = get_by_text c.give_inside.new.given; gives = h is of on }) c.give_inside.ensures
