use Rattle.std.proofs.Common.{◌≡◌, ◌<◌, ℕ, Option, Some, slice_get}
use Rattle.wac_component.specs.declared.items.ItemKind.{ItemKind}
use Rattle.wac_component.specs.Key.{AllStand}
use Rattle.wac_component.specs.Parts.{places, place_keys}
use Rattle.wac_component.proofs.collection.standing.parts_stand.Given as goal

abbrev pub invariant-loop-i : goal.invariant-loop-i
invariant-loop-i l = (k : ℕ) (p : Option ItemKind) → k < l.i → slice_get (places l.parts) k ≡ Some p → AllStand l.types (place_keys p)
