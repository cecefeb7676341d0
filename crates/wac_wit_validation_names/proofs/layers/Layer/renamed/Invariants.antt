use Rattle.std.proofs.Common.{◌≡◌, take}
use Rattle.wac_wit_validation_names.proofs.layers.Layer.renamed.Given as goal

abbrev pub invariant-loop-item : goal.invariant-loop-item
invariant-loop-item l = l.items.items ≡ take l.item-index l.self.items.items
