use Rattle.wac_bounds.proofs.Bounds.{meets_depend_on_members}
use Rattle.wac_bounds.proofs.laws.meets_depend_on_members.Goals as goal

pub returns : goal.returns
returns c = meets_depend_on_members
