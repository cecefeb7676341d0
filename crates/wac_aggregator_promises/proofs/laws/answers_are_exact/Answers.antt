use Rattle.wac_aggregator_promises.proofs.AnyOrder.{answers_exact}
use Rattle.wac_aggregator_promises.proofs.laws.answers_are_exact.Goals as goal

pub returns : goal.returns
returns c = answers_exact
