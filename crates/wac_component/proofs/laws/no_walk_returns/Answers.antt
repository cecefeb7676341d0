use Rattle.wac_component.proofs.Walks.{no_walk_returns}
use Rattle.wac_component.proofs.laws.no_walk_returns.Goals as goal

pub returns : goal.returns
returns c = no_walk_returns
