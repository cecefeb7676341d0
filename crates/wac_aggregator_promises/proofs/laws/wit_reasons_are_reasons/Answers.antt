use Rattle.wac_aggregator_promises.proofs.WitReasons.{wit_reasons_are_reasons}
use Rattle.wac_aggregator_promises.proofs.laws.wit_reasons_are_reasons.Goals as goal

pub returns : goal.returns
returns c = wit_reasons_are_reasons
