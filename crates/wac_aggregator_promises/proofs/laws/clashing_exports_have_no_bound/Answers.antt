use Rattle.wac_aggregator_promises.proofs.WitReasons.{clashing_exports}
use Rattle.wac_aggregator_promises.proofs.laws.clashing_exports_have_no_bound.Goals as goal

pub returns : goal.returns
returns c = clashing_exports
