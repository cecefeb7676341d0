use Rattle.wac_model.proofs.ItemOrder.{Fits-refl}
use Rattle.wac_model.proofs.laws.order_is_reflexive.Goals as goal

pub returns : goal.returns
returns c = Fits-refl
