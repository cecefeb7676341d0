use Rattle.wac_component.proofs.Extended.{Extends-refl}
use Rattle.wac_component.proofs.laws.growth_is_reflexive.Goals as goal

pub returns : goal.returns
returns c = Extends-refl
