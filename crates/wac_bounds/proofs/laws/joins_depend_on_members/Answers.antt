use Rattle.wac_bounds.proofs.Bounds.{joins_depend_on_members}
use Rattle.wac_bounds.proofs.laws.joins_depend_on_members.Goals as goal

pub returns : goal.returns
returns c = joins_depend_on_members
