use Rattle.wac_aggregator_taking.proofs.serving.item_serves.Goals as goal

pub returns-in-Ok-clause-served : goal.returns-in-Ok-clause-served
returns-in-Ok-clause-served c = c.in-Ok.ensures.answer.0
