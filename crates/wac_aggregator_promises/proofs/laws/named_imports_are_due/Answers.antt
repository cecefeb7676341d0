use Rattle.wac_aggregator_promises.proofs.ByTrack.{imports_due}
use Rattle.wac_aggregator_promises.proofs.laws.named_imports_are_due.Goals as goal

pub returns : goal.returns
returns c = imports_due
