-- Where a call may be refused: for each refusal but that of a failed allocation, what stands then.
use Rattle.std.specs.Prelude.{◌≡◌, ◌≢◌, ◌⊎◌, Some, None, IsSome, slice_get}
use Rattle.wac_model.specs.Text.{Text}
use Rattle.wac_model.specs.Desc.{item_desc}
use Rattle.wac_model.specs.ItemTree.{ItemTree}
use Rattle.wac_component.specs.Id.{Id}
use Rattle.wac_component.specs.Collection.{Collection, UseContent, ResourceContent}
use Rattle.wac_component.specs.Implicit.{identifier}
use Rattle.wac_component.specs.Key.{Key, interface_key, resource_key}
use Rattle.wac_component.specs.Entries.{HasUse, owner_at}
use Rattle.wac_component.specs.Open.{OpenReaches}
use Rattle.wac_names.specs.Class.{Class, class_of}
use Rattle.wac_aggregator_promises.specs.Attempt.{Attempt, Sources, IsSource, OpenlyReached, Touches}
use Rattle.wac_aggregator_promises.specs.Call.{call_track, call_tree}
use Rattle.wac_aggregator_promises.specs.Case.{case_of}
use Rattle.wac_aggregator_promises.specs.Clash.{ExportsClash, InterfacesClash, NamesClash}
use Rattle.wac_aggregator_promises.specs.Compatible.{LeadsOver}
use Rattle.wac_aggregator_promises.specs.Entries.{IsIdentifiedOn}
use Rattle.wac_aggregator_promises.specs.TreeSets.{HaveNoLowerBound}

-- the refusals of a call, with the texts that they carry; a mismatch is explained by a no
pub data CallRefusal : Type 0 where
  kinds : (existing found : Text) → CallRefusal
  mismatch : CallRefusal
  unexplained : CallRefusal
  used_interface : (used expected found : Text) → CallRefusal
  used_name : (used : Text) → CallRefusal
  no_identifier : (used : Text) → CallRefusal
  owner_without_identifier : (resource : Text) → CallRefusal
  taken : (name : Text) → CallRefusal
  cycle : (interface : Text) → CallRefusal

-- the import on the name's track and the item differ in case, or in the case of their
-- type; these are their descriptions
pub record KindsDiffer (a : Attempt) (existing found : Text) : Type 0 where
  pub tree : ItemTree
  pub stood : a.import ≡ Some tree
  pub differ : case_of tree ≢ case_of (call_tree a.call)
  pub existing_desc : existing ≡ item_desc tree
  pub found_desc : found ≡ item_desc (call_tree a.call)

-- an import stood on the name's track, and its tree and the item's have no common lower bound
pub record ImportClashes (a : Attempt) : Type 0 where
  pub tree : ItemTree
  pub stood : a.import ≡ Some tree
  pub no_bound : HaveNoLowerBound tree (call_tree a.call)

-- or the item touches, and two exports of one name, each in a source, have none
abbrev pub Mismatches : Attempt → Type 0
Mismatches a = ImportClashes a ⊎ (Touches a × ExportsClash (IsSource a.sources))

-- an import stood on the name's track, or the item touches
abbrev pub IsImportedOrTouches : Attempt → Type 0
IsImportedOrTouches a = IsSome a.import ⊎ Touches a

-- the item openly reaches a use under the name of an interface without identifier
pub record UsesUnidentified (a : Attempt) (name : Text) : Type 0 where
  pub key : Key
  pub content : UseContent
  pub reached : OpenlyReached a key
  pub has : HasUse a.call.types key name content
  pub unidentified : identifier a.call.types content.interface ≡ None

-- the item openly reaches a resource whose entry has the name, and whose owner has no identifier
pub record OwnerUnidentified (a : Attempt) (name : Text) : Type 0 where
  pub resource : Id
  pub entry : ResourceContent
  pub owner : Id
  pub reached : OpenlyReached a (resource_key resource)
  pub is_at : slice_get a.call.types.resources resource.index ≡ Some entry
  pub named : entry.name ≡ name
  pub owned : owner_at a.call.types resource ≡ Some owner
  pub unidentified : identifier a.call.types owner ≡ None

-- no import stood on the name's track, and the item openly reaches an
-- owner whose identifier is on it
pub record IsTaken (a : Attempt) (name : Text) : Type 0 where
  pub none_stood : a.import ≡ None
  pub resource : Id
  pub owner : Id
  pub reached : OpenlyReached a (resource_key resource)
  pub owned : owner_at a.call.types resource ≡ Some owner
  pub is_on : IsIdentifiedOn a.call.types owner (call_track a.call)
  pub named : name ≡ a.call.name

-- among the sources an identified interface on this track openly reaches another one on that track
pub record TrackLeads (sources : Sources) (s t : Class) : Type 0 where
  pub types : Collection
  pub from : Id
  pub to : Id
  pub from_source : IsSource sources types (interface_key from)
  pub to_source : IsSource sources types (interface_key to)
  pub from_on : IsIdentifiedOn types from s
  pub to_on : IsIdentifiedOn types to t
  pub another : to ≢ from
  pub walk : OpenReaches types (interface_key from) (interface_key to)

-- the item openly reaches an interface with the identifier, from whose track
-- this relation leads back to it
pub record ClosesCycle (a : Attempt) (name : Text) : Type 0 where
  pub interface : Id
  pub reached : OpenlyReached a (interface_key interface)
  pub identified : identifier a.call.types interface ≡ Some name
  pub leads_back : LeadsOver (TrackLeads a.sources) (class_of name) (class_of name)

-- the table; for a mismatch without a no there is never reason
abbrev pub IsReason : Attempt → CallRefusal → Type 0
IsReason a (kinds existing found) = KindsDiffer a existing found
IsReason a mismatch = Mismatches a
IsReason a unexplained = ⊥
IsReason a (used_interface used expected found) = IsImportedOrTouches a × InterfacesClash (IsSource a.sources) used expected found
IsReason a (used_name used) = IsImportedOrTouches a × NamesClash (IsSource a.sources) used
IsReason a (no_identifier used) = UsesUnidentified a used
IsReason a (owner_without_identifier name) = OwnerUnidentified a name
IsReason a (taken name) = IsTaken a name
IsReason a (cycle name) = ClosesCycle a name
