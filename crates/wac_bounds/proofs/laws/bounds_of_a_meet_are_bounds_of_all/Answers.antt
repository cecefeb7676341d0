use Rattle.wac_bounds.proofs.More.{bounds_of_more}
use Rattle.wac_bounds.proofs.laws.bounds_of_a_meet_are_bounds_of_all.Goals as goal

pub returns : goal.returns
returns c = bounds_of_more
