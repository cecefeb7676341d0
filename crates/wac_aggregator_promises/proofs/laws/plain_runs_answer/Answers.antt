use Rattle.wac_aggregator_promises.proofs.PlainRuns.{plain_runs_answer}
use Rattle.wac_aggregator_promises.proofs.laws.plain_runs_answer.Goals as goal

pub returns : goal.returns
returns c = plain_runs_answer
