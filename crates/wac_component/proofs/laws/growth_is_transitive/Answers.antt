use Rattle.wac_component.proofs.Extended.{Extends-trans}
use Rattle.wac_component.proofs.laws.growth_is_transitive.Goals as goal

pub returns : goal.returns
returns c = Extends-trans
