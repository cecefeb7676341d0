use Rattle.wac_bounds.proofs.Bounds.{have_meets}
use Rattle.wac_bounds.proofs.laws.trees_with_a_lower_bound_have_a_meet.Goals as goal

pub returns : goal.returns
returns c = have_meets
