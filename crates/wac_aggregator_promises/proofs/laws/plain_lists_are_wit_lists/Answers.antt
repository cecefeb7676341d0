use Rattle.wac_aggregator_promises.proofs.PlainAsWit.{plain_as_wit}
use Rattle.wac_aggregator_promises.proofs.laws.plain_lists_are_wit_lists.Goals as goal

pub returns : goal.returns
returns c = plain_as_wit
