use Rattle.std.proofs.Common.{◌≡◌, ◌++◌, map, drop}
use Rattle.wac_component.specs.Naming.{key_of}
use Rattle.wac_component.specs.Parts.{places, places_keys}
use Rattle.wac_component.proofs.collection.naming.push_parts.Given as goal

abbrev pub invariant-loop-i : goal.invariant-loop-i
invariant-loop-i l = (map key_of l.ids.items ++ places_keys (drop l.i (places l.parts))) ≡ (map key_of l.initial.ids.items ++ places_keys (places l.parts))
