use Rattle.std.specs.List.{flat_map}
use Rattle.wac_component.specs.Key.{AllStand, value_keys}
use Rattle.wac_script_entries.proofs.definitions.value_types.Given as goal

abbrev pub invariant-loop-word : goal.invariant-loop-word
invariant-loop-word l = AllStand l.types (flat_map value_keys l.found.items)
