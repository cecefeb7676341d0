use Rattle.wac_model.proofs.ItemOrder.{leaves_equal}
use Rattle.wac_model.proofs.laws.order_on_leaves_is_equality.Goals as goal

pub returns : goal.returns
returns c = leaves_equal
