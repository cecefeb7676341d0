use Rattle.wac_bounds.proofs.Bounds.{one_join}
use Rattle.wac_bounds.proofs.laws.joins_are_the_same.Goals as goal

pub returns : goal.returns
returns c = one_join
