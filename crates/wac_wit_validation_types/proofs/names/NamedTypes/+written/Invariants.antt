use Rattle.std.proofs.Common.{map, take}
use Rattle.wac_component.specs.Tree.{value_tree}
use Rattle.wac_wit_validation_types.specs.Denoted.{AreValuesOf, Setting}
use Rattle.wac_wit_validation_types.specs.Reading.{StandForTypes}
use Rattle.wac_wit_validation_types.proofs.names.NamedTypes.+written.Given as goal

abbrev pub invariant-are_values-loop-index : goal.invariant-are_values-loop-index
invariant-are_values-loop-index l = (s : Setting) → StandForTypes l.self s → AreValuesOf s (take l.index l.types) (map (value_tree l.self.types.now) (take l.index l.of))
