use Rattle.wac_aggregator_taking.proofs.Alike.{IsNear-none}
use Rattle.wac_aggregator_taking.proofs.near.nearest_of.Goals as goal

pub returns-then-not-asks_near-clause-stands : goal.returns-then-not-asks_near-clause-stands
returns-then-not-asks_near-clause-stands c = IsNear-none c.args.state.now

pub returns-then-not-asks_near-clause-nearest : goal.returns-then-not-asks_near-clause-nearest
returns-then-not-asks_near-clause-nearest c = λ i is. absurd (cc)
