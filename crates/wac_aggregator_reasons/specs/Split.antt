-- The open part of an aggregator, and what is below imports.
use Rattle.std.specs.Prelude.{◌≡◌, ◌⊎◌, Some}
use Rattle.wac_model.specs.Text.{Text}
use Rattle.wac_component.specs.Entries.{identifier_at}
use Rattle.wac_component.specs.Key.{Key, Stands}
use Rattle.wac_component.specs.Reach.{IsAmong, Reaches}
use Rattle.wac_component.specs.Open.{OpenReaches}
use Rattle.wac_aggregator_promises.specs.Attempt.{IsBelowImport}
use Rattle.wac_aggregator_narrowing.specs.State.{State}
use Rattle.wac_aggregator_reasons.specs.Sharing.{IsOpenRoot}

-- a walk from a copy, or from an import of a world, leads to the id
pub data IsLow (s : State) (k : Key) : Type 0 where
  of_copy : (theirs own : Key) → s.copies theirs ≡ Some own → Reaches s.own own k → IsLow s k
  of_import : IsBelowImport s.own k → IsLow s k

-- no open walk from the id leads to such an id
abbrev pub IsOpenKey : State → Key → Type 0
IsOpenKey s k = (t : Key) → OpenReaches s.own k t → IsLow s t → ⊥

-- no open walk in the aggregator does
abbrev pub AreSplit : State → Type 0
AreSplit s = (k : Key) → IsOpenRoot s k → IsOpenKey s k

-- what stood is open, and low, where it was
pub record StaySplit (s t : State) : Type 0 where
  pub opens : (k : Key) → Stands s.own k → IsOpenKey s k → IsOpenKey t k
  pub lows : (k : Key) → IsLow s k → IsLow t k

-- the entry is a shared one, or below an import of a component
abbrev pub IsSharedOrBelow : State → Key → Type 0
IsSharedOrBelow s k = IsAmong k s.shared ⊎ IsBelowImport s.own k

-- each interface with an identifier is; each is that the second state has and the first has not
abbrev pub AreSharedOrBelow : State → Type 0
AreSharedOrBelow s = (k : Key) (n : Text) → Stands s.own k → identifier_at s.own k ≡ Some n → IsSharedOrBelow s k

abbrev pub AddsSharedOrBelow : State → State → Type 0
AddsSharedOrBelow s t = (k : Key) (n : Text) → Stands t.own k → identifier_at t.own k ≡ Some n → Stands s.own k ⊎ IsSharedOrBelow t k
