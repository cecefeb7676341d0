use Rattle.wac_component.specs.Key.{item_keys}
use Rattle.wac_aggregator_taking.proofs.StepLemmas.{put_none}
use Rattle.wac_aggregator_taking.proofs.steps.ask.Goals as goal

pub returns-then-has_item-clause-steps : goal.returns-then-has_item-clause-steps
returns-then-has_item-clause-steps c = put_none (item_keys c.args.kind.now) c.args.near.now c.args.steps.now.items

pub returns-then-has_item-clause-has : goal.returns-then-has_item-clause-has
returns-then-has_item-clause-has c = λ yes. c.has_item.ensures c.if-has_item.true
