-- Calls that hand in what worlds import.
use Rattle.std.specs.Prelude.{◌≡◌, ℕ, zero, suc, List, Option, Some, None, Contains, option_map, slice_get}
use Rattle.wac_types.specs.Collection.{Collection}
use Rattle.wac_types.specs.Key.{AllStand, item_keys}
use Rattle.wac_types.specs.Call.{Call}
use Rattle.wac_wit_answers.specs.declared.merging.Source.{Source}

-- the collection of a world, by its number: the first has number 1
abbrev pub numbered_collection : List Source → ℕ → Option Collection
numbered_collection sources zero = None
numbered_collection sources (suc i) = option_map (λ s. s.types) (slice_get sources i)

-- the call is of the collection of a world, and its item stands there
pub record IsHandedFrom (sources : List Source) (c : Call) : Type 0 where
  pub found : numbered_collection sources c.types.number ≡ Some c.types
  pub stands : AllStand c.types (item_keys c.kind)

abbrev pub AreHandedFrom : List Source → List Call → Type 0
AreHandedFrom sources calls = (c : Call) → Contains calls c → IsHandedFrom sources c
