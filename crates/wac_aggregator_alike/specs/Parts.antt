-- Resources among the ids of entries, and the tracks of their owners.
use Rattle.std.specs.Prelude.{◌≡◌, ◌↔◌, List, Contains, Option, Some, None}
use Rattle.indexmap.specs.IndexSet.{IndexSet}
use Rattle.wac_component.specs.Id.{Id}
use Rattle.wac_component.specs.Collection.{Collection}
use Rattle.wac_component.specs.Entries.{owner_at}
use Rattle.wac_component.specs.Key.{resource_key, Stands}
use Rattle.wac_component.specs.declared.collection.naming.EntryId.{EntryId}
use Rattle.wac_component.specs.declared.collection.naming.EntryId.TheVariants.{Resource}
use Rattle.wac_names.specs.Class.{Class}
use Rattle.wac_aggregator_alike.specs.Alike.{HaveIdentifiers, IsTrackAmong}

-- the resource, if it is one
abbrev pub resource_in : EntryId → Option Id
resource_in (Resource p) = Some p
resource_in e = None

-- each of these resources stands in the collection
abbrev pub AllStandIn : Collection → List Id → Type 0
AllStandIn c rs = (r : Id) → Contains rs r → Stands c (resource_key r)

-- the interface owns one of these resources
abbrev pub IsOwnerAmong : Collection → List Id → Id → Type 0
IsOwnerAmong c rs o = (r : Id) × Contains rs r × (owner_at c r ≡ Some o)

-- ts are the tracks of the owners of these resources, each of which has an identifier
pub record AreTracks (c : Collection) (rs : List Id) (ts : List Class) : Type 0 where
  pub identified : HaveIdentifiers c (IsOwnerAmong c rs)
  pub exact : (t : Class) → Contains ts t ↔ IsTrackAmong c (IsOwnerAmong c rs) t

-- the tracks of the owners of these resources, where each of these has an identifier
abbrev pub AreTracksOf : {S : Type 0} → Collection → List Id → Option (IndexSet Class S) → Type 0
AreTracksOf c rs (Some s) = AreTracks c rs s.keys
AreTracksOf c rs None = ¬ HaveIdentifiers c (IsOwnerAmong c rs)
