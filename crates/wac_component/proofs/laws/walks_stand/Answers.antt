use Rattle.wac_component.proofs.Walks.{walks_stand}
use Rattle.wac_component.proofs.laws.walks_stand.Goals as goal

pub returns : goal.returns
returns c = walks_stand
