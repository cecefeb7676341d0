use Rattle.wac_aggregator_promises.proofs.Unions.{meets_are_unions}
use Rattle.wac_aggregator_promises.proofs.laws.meets_are_unions.Goals as goal

pub returns : goal.returns
returns c = meets_are_unions
