-- Calls that hand in what the components of a graph import.
use Rattle.std.specs.Prelude.{◌≡◌, ◌≢◌, ℕ, List, Option, Some, None, Contains, cond, nat_eq}
use Rattle.wac_types.specs.Collection.{Collection}
use Rattle.wac_types.specs.Key.{AllStand, item_keys}
use Rattle.wac_types.specs.Call.{Call}
use Rattle.wac_composition.specs.declared.graph.Graph.{Graph}

-- the collection of a component, by its number
abbrev pub component_types : Graph → ℕ → Option Collection
component_types g n = cond (nat_eq n 1) (Some g.middleware.types) (cond (nat_eq n 2) (Some g.handler.types) (cond (nat_eq n 3) (Some g.client.types) None))

-- the call is of the collection of a component, and its item stands there
pub record IsCallOf (g : Graph) (c : Call) : Type 0 where
  pub found : component_types g c.types.number ≡ Some c.types
  pub stands : AllStand c.types (item_keys c.kind)

abbrev pub AreCallsOf : Graph → List Call → Type 0
AreCallsOf g calls = (c : Call) → Contains calls c → IsCallOf g c

-- they may be handed to an aggregator of this number: the items stand in their collections, which
-- have other numbers, and equal numbers mean one collection
pub record MayBeAggregated (number : ℕ) (calls : List Call) : Type 0 where
  pub source : (c : Call) → Contains calls c → AllStand c.types (item_keys c.kind)
  pub one : (c d : Call) → Contains calls c → Contains calls d → c.types.number ≡ d.types.number → c.types ≡ d.types
  pub apart : (c : Call) → Contains calls c → c.types.number ≢ number
