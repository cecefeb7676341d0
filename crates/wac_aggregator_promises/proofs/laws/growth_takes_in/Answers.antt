use Rattle.wac_aggregator_promises.proofs.Growing.{growth_takes_in}
use Rattle.wac_aggregator_promises.proofs.laws.growth_takes_in.Goals as goal

pub returns : goal.returns
returns c = growth_takes_in
