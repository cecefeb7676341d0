use Rattle.wac_aggregator_promises.proofs.AnyOrder.{wit_in_any_order}
use Rattle.wac_aggregator_promises.proofs.laws.wit_answers_in_any_order.Goals as goal

pub returns : goal.returns
returns c = wit_in_any_order
