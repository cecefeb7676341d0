use Rattle.std.proofs.lemmas.Result.{IfOk-weaker}
use Rattle.indexmap.specs.IndexMap.{get_by_text}
use Rattle.wac_wit_validation_names.proofs.worlds_once.give_once.Goals as goal

pub returns : goal.returns
returns c = IfOk-weaker c.give_layers.result _ _ (λ b h is. record { given = get_by_text c.give_layers.new.given; gives = h is }) c.give_layers.ensures
