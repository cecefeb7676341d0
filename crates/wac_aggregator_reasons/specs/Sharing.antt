-- What of an aggregator comes from sources.
use Rattle.std.specs.Prelude.{◌≡◌, ◌⊎◌, Some, IsSome}
use Rattle.wac_model.specs.Text.{Text}
use Rattle.wac_component.specs.Id.{Id}
use Rattle.wac_component.specs.Collection.{Collection, UseContent}
use Rattle.wac_component.specs.Implicit.{HasIdentifier}
use Rattle.wac_component.specs.Key.{Key, interface_key, item_keys}
use Rattle.wac_component.specs.Reach.{IsAmong}
use Rattle.wac_component.specs.Entries.{HasUse, identifier_at}
use Rattle.wac_component.specs.Open.{OpenReaches}
use Rattle.wac_component.specs.declared.items.ItemKind.{ItemKind}
use Rattle.wac_names.specs.Class.{class_of}
use Rattle.wac_aggregator_promises.specs.Attempt.{Sources, IsSource, IsHeld}
use Rattle.wac_aggregator_promises.specs.Entries.{IsIdentifiedOn}
use Rattle.wac_aggregator_narrowing.specs.State.{State}
use Rattle.wac_aggregator_reasons.specs.Sourced.{IsSourced}

-- where open walks in an aggregator start: shared entries, imports, and what was taken in
pub data IsOpenRoot (s : State) (k : Key) : Type 0 where
  of_shared : IsAmong k s.shared → IsOpenRoot s k
  of_import : {n : Text} {x : ItemKind} → s.imports n ≡ Some x → IsAmong k (item_keys x) → IsOpenRoot s k
  of_taken : {theirs : Key} → s.taken theirs ≡ Some k → IsOpenRoot s k

-- a source with an identifier on the track of this name: it stood at the start, or was taken in
pub record IsSharer (sources : Sources) (s : State) (name : Text) : Type 0 where
  pub types : Collection
  pub id : Id
  pub source : IsSource sources types (interface_key id)
  pub is_on : IsIdentifiedOn types id (class_of name)
  pub stood : (types ≡ sources.start) ⊎ IsSome (s.taken (interface_key id))

-- all that open walks lead to comes from sources, and each shared entry has one on its track
pub record AreSourced (sources : Sources) (s : State) : Type 0 where
  pub roots : (k : Key) → IsOpenRoot s k → IsSourced (IsSource sources) s.own k
  pub sharers : (k : Key) (n : Text) → IsAmong k s.shared → identifier_at s.own k ≡ Some n → IsSharer sources s n

-- all that open walks lead to is held, and uses interfaces with identifiers
pub record AreHeld (s : State) : Type 0 where
  pub held : (k t : Key) → IsOpenRoot s k → OpenReaches s.own k t → IsHeld s.own t
  pub used : (k t : Key) (n : Text) (u : UseContent) → IsOpenRoot s k → OpenReaches s.own k t → HasUse s.own t n u → HasIdentifier s.own u.interface
