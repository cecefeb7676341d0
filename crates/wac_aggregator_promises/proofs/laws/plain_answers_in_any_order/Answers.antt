use Rattle.wac_aggregator_promises.proofs.AnyOrder.{plain_in_any_order}
use Rattle.wac_aggregator_promises.proofs.laws.plain_answers_in_any_order.Goals as goal

pub returns : goal.returns
returns c = plain_in_any_order
