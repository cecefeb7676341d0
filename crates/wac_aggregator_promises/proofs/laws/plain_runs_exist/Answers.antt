use Rattle.wac_aggregator_promises.proofs.PlainSteps.{plain_runs_exist}
use Rattle.wac_aggregator_promises.proofs.laws.plain_runs_exist.Goals as goal

pub returns : goal.returns
returns c = plain_runs_exist
