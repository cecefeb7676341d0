use Rattle.wac_bounds.proofs.More.{meets_of_more}
use Rattle.wac_bounds.proofs.laws.meet_of_a_meet_is_the_meet_of_all.Goals as goal

pub returns : goal.returns
returns c = meets_of_more
