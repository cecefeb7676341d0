use Rattle.wac_aggregator_promises.proofs.Serving.{steps_serve_all}
use Rattle.wac_aggregator_promises.proofs.laws.steps_serve_all.Goals as goal

pub returns : goal.returns
returns c = steps_serve_all
