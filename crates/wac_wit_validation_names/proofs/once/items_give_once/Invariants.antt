use Rattle.std.proofs.Common.{take}
use Rattle.std.specs.Prelude.{All}
use Rattle.wac_wit_validation_names.specs.Once.{ItemGivesOnce}
use Rattle.wac_wit_validation_names.proofs.once.items_give_once.Given as goal

abbrev pub invariant-loop-item : goal.invariant-loop-item
invariant-loop-item l = All (ItemGivesOnce l.features) (take l.item-index l.items)
