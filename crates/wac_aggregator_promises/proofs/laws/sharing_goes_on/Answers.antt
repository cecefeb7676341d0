use Rattle.wac_aggregator_promises.proofs.TakenIn.{sharing_goes_on}
use Rattle.wac_aggregator_promises.proofs.laws.sharing_goes_on.Goals as goal

pub returns : goal.returns
returns c = sharing_goes_on
