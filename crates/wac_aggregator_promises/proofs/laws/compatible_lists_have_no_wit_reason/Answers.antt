use Rattle.wac_aggregator_promises.proofs.WitReasons.{compatible_no_reason}
use Rattle.wac_aggregator_promises.proofs.laws.compatible_lists_have_no_wit_reason.Goals as goal

pub returns : goal.returns
returns c = compatible_no_reason
