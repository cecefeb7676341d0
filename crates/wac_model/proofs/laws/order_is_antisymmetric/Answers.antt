use Rattle.wac_model.proofs.Antisymmetry.{antisymmetric}
use Rattle.wac_model.proofs.laws.order_is_antisymmetric.Goals as goal

pub returns : goal.returns
returns c = antisymmetric
