-- A call that is tried: what of the state of merging has its sources.
use Rattle.std.specs.Prelude.{◌≡◌, ◌≢◌, ◌⊎◌, List, Some, Contains}
use Rattle.std.specs.Str.{bytes_eq}
use Rattle.wac_model.specs.Text.{Text, lookup}
use Rattle.wac_component.specs.Collection.{Collection, UseContent}
use Rattle.wac_component.specs.Growth.{Extends}
use Rattle.wac_component.specs.Key.{Key, Stands, Each, item_keys, interface_key}
use Rattle.wac_component.specs.Reach.{IsAmong}
use Rattle.wac_component.specs.declared.items.ItemKind.{ItemKind}
use Rattle.wac_aggregator_promises.specs.Attempt.{Attempt, IsSource, OpenlyReached, Touches}
use Rattle.wac_aggregator_promises.specs.Call.{IsSoundCall}
use Rattle.wac_aggregator_narrowing.specs.State.{State}
use Rattle.wac_aggregator_narrowing.specs.Taking.{SameTree}
use Rattle.wac_aggregator_narrowing.specs.Traced.{Root, IsAmongRoots, IsArrowed}
use Rattle.wac_aggregator_reasons.specs.Items.{IsSourcedItem, IsSourcedUse}
use Rattle.wac_aggregator_reasons.specs.Roots.{RootsAreSources}
use Rattle.wac_aggregator_reasons.specs.Sharing.{AreSourced}
use Rattle.wac_aggregator_reasons.specs.Sourced.{IsSourced}
use Rattle.wac_aggregator_reasons.specs.Split.{IsLow, IsOpenKey, AreSplit}

-- the item of the call openly reaches these ids of its collection f, which isn't the one at
-- the start; the call is a source
pub record IsTrial (a : Attempt) (f : Collection) (ks : List Key) : Type 0 where
  pub types : a.call.types ≡ f
  pub reached : (k : Key) → IsAmong k ks → OpenlyReached a k
  pub sound : IsSoundCall a.call
  pub source : Contains a.sources.calls a.call
  pub apart : a.sources.start ≢ f

-- entries were only added since the start, and what was taken in for what the
-- item openly reaches has its tree
pub record OnlyGrew (a : Attempt) (s : State) : Type 0 where
  pub grows : Extends a.sources.start s.own
  pub same : (theirs own : Key) → OpenlyReached a theirs → s.taken theirs ≡ Some own → SameTree a.call.types s.own theirs own

-- all that open walks lead to comes from sources, and is apart from what is below imports; walks
-- between shared entries follow arrows from roots that lead to sources alone; and the item
-- touches, or what is only new was added
pub record IsAccounted (a : Attempt) (s : State) : Type 0 where
  pub sourced : AreSourced a.sources s
  pub split : AreSplit s
  pub roots : List Root
  pub of_item : (k : Key) → IsAmong k (item_keys a.call.kind) → IsAmongRoots a.call.types k roots
  pub are_sources : RootsAreSources a.sources roots
  pub arrowed : IsArrowed s.own s.shared roots
  pub told : Touches a ⊎ OnlyGrew a s

-- the own entry is open, and comes from sources
pub record IsOpenSource (a : Attempt) (s : State) (k : Key) : Type 0 where
  pub sourced : IsSourced (IsSource a.sources) s.own k
  pub opens : IsOpenKey s k

-- so is all of the next state; entries were only added, unless the item touches; what was open and
-- came from sources is and does so still, and what was low is
pub record StaysAccounted (a : Attempt) (s t : State) : Type 0 where
  pub now : IsAccounted a t
  pub grows : Touches a ⊎ Extends s.own t.own
  pub keys : (k : Key) → Stands s.own k → IsOpenSource a s k → IsOpenSource a t k
  pub lows : (k : Key) → IsLow s k → IsLow t k

-- an own item that may be exported under the name, comes from sources, and leads to what is open
pub record IsOpenItem (a : Attempt) (s : State) (name : Text) (x : ItemKind) : Type 0 where
  pub item : IsSourcedItem (IsSource a.sources) s.own name x
  pub opens : Each (IsOpenKey s) (item_keys x)

-- each item that a name leads to in the list is such
abbrev pub AreOpenItems : Attempt → State → List (Text × ItemKind) → Type 0
AreOpenItems a s es = (name : Text) (x : ItemKind) → lookup bytes_eq es name ≡ Some x → IsOpenItem a s name x

-- an own use that comes from sources, of an interface that leads to what is open
pub record IsOpenUse (a : Attempt) (s : State) (name : Text) (u : UseContent) : Type 0 where
  pub use_sourced : IsSourcedUse (IsSource a.sources) s.own name u
  pub opens : IsOpenKey s (interface_key u.interface)

-- each use of the list is such
abbrev pub AreOpenUses : Attempt → State → List (Text × UseContent) → Type 0
AreOpenUses a s us = (name : Text) (u : UseContent) → Contains us (name, u) → IsOpenUse a s name u
