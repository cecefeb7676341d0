use Rattle.wac_aggregator_promises.proofs.GreatestBounds.{greatest_bounds}
use Rattle.wac_aggregator_promises.proofs.laws.imports_are_greatest_bounds.Goals as goal

pub returns : goal.returns
returns c = greatest_bounds
