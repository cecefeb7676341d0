use Rattle.std.proofs.Common.{◌≡◌, ◌≤◌}
use Rattle.wac_component.specs.Aliases.{IsMeantBy}
use Rattle.wac_component.specs.Height.{keys_height}
use Rattle.wac_component.specs.Key.{AllStand, value_keys}
use Rattle.wac_component.specs.Tree.{value_tree}
use Rattle.wac_component.specs.declared.items.ValueType.{ValueType}
use Rattle.wac_component.proofs.collection.Types.resolve_value_type.Given as goal

abbrev pub invariant-loop-at : goal.invariant-loop-at
invariant-loop-at l = (value_tree l.self l.at ≡ value_tree l.self l.fn.ty) × AllStand l.self (value_keys l.at) × (keys_height l.self (value_keys l.at) ≤ keys_height l.self (value_keys l.fn.ty)) × ((v : ValueType) → IsMeantBy l.self l.at v → IsMeantBy l.self l.fn.ty v)

abbrev pub decreases-loop-at : goal.decreases-loop-at
decreases-loop-at l = keys_height l.self (value_keys l.at)
