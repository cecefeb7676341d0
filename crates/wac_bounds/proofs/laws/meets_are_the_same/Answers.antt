use Rattle.wac_bounds.proofs.Bounds.{one_meet}
use Rattle.wac_bounds.proofs.laws.meets_are_the_same.Goals as goal

pub returns : goal.returns
returns c = one_meet
