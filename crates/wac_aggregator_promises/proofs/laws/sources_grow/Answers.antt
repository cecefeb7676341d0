use Rattle.wac_aggregator_promises.proofs.MoreSources.{sources_grow}
use Rattle.wac_aggregator_promises.proofs.laws.sources_grow.Goals as goal

pub returns : goal.returns
returns c = sources_grow
