-- Calls that hand in items of two collections.
use Rattle.std.specs.Prelude.{◌≡◌, ◌≢◌, ℕ, List, Option, Some, None, Contains, cond, nat_eq}
use Rattle.wac_types.specs.Collection.{Collection}
use Rattle.wac_types.specs.Key.{AllStand, item_keys}
use Rattle.wac_types.specs.Call.{Call}

-- the collection of a number, of two with the numbers 1 and 2
abbrev pub collection_at : Collection → Collection → ℕ → Option Collection
collection_at first second n = cond (nat_eq n 1) (Some first) (cond (nat_eq n 2) (Some second) None)

-- the call is of one of the two, and its item stands there
pub record IsCallOf (first second : Collection) (c : Call) : Type 0 where
  pub found : collection_at first second c.types.number ≡ Some c.types
  pub stands : AllStand c.types (item_keys c.kind)

abbrev pub AreCallsOf : Collection → Collection → List Call → Type 0
AreCallsOf first second calls = (c : Call) → Contains calls c → IsCallOf first second c

-- they may be handed to an aggregator of this number: the items stand in their collections, which
-- have other numbers, and equal numbers mean one collection
pub record MayBeAggregated (number : ℕ) (calls : List Call) : Type 0 where
  pub source : (c : Call) → Contains calls c → AllStand c.types (item_keys c.kind)
  pub one : (c d : Call) → Contains calls c → Contains calls d → c.types.number ≡ d.types.number → c.types ≡ d.types
  pub apart : (c : Call) → Contains calls c → c.types.number ≢ number
