use Rattle.wac_model.proofs.ItemOrder.{Fits-trans}
use Rattle.wac_model.proofs.laws.order_is_transitive.Goals as goal

pub returns : goal.returns
returns c = Fits-trans
