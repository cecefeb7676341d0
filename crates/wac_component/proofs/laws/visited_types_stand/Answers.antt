use Rattle.wac_component.proofs.VisitedStand.{visited_stand}
use Rattle.wac_component.proofs.laws.visited_types_stand.Goals as goal

pub returns : goal.returns
returns c = visited_stand
