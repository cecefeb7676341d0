-- Calls of items of the collections that a session has.
use Rattle.std.specs.Prelude.{◌≡◌, ℕ, List, Some, Contains}
use Rattle.wac_component.specs.Key.{AllStand, item_keys}
use Rattle.wac_aggregator_promises.specs.Call.{Call}
use Rattle.wac_script_session.specs.Collections.{Numbered, collection_at}

-- the call is of the collection of its number, and its item stands there
pub record IsCallIn (cs : Numbered) (c : Call) : Type 0 where
  pub found : collection_at cs c.types.number ≡ Some c.types
  pub stands : AllStand c.types (item_keys c.kind)

abbrev pub AreCallsIn : Numbered → List Call → Type 0
AreCallsIn cs calls = (c : Call) → Contains calls c → IsCallIn cs c

-- the item stands in its collection, which has another number than this
pub record IsAsked (number : ℕ) (c : Call) : Type 0 where
  pub stands : AllStand c.types (item_keys c.kind)
  pub apart : ¬ (c.types.number ≡ number)

-- so do all items, and equal numbers mean one collection
pub record AreAsked (number : ℕ) (calls : List Call) : Type 0 where
  pub each : (c : Call) → Contains calls c → IsAsked number c
  pub one : (c d : Call) → Contains calls c → Contains calls d → c.types.number ≡ d.types.number → c.types ≡ d.types
