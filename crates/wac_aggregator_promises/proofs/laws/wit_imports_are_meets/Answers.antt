use Rattle.wac_aggregator_promises.proofs.MoreMembers.{wit_imports_are_meets}
use Rattle.wac_aggregator_promises.proofs.laws.wit_imports_are_meets.Goals as goal

pub returns : goal.returns
returns c = wit_imports_are_meets
