use Rattle.wac_aggregator_promises.proofs.WitStates.{wit_runs_answer}
use Rattle.wac_aggregator_promises.proofs.laws.wit_runs_answer.Goals as goal

pub returns : goal.returns
returns c = wit_runs_answer
