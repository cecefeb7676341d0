use Rattle.wac_bounds.proofs.Bounds.{have_joins}
use Rattle.wac_bounds.proofs.laws.trees_with_an_upper_bound_have_a_join.Goals as goal

pub returns : goal.returns
returns c = have_joins
