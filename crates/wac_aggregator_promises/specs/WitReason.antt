-- Where a call of a list of WIT interfaces may be refused: exports and uses clash
-- only in interfaces on one track.
use Rattle.std.specs.Prelude.{◌⊎◌, ◌≡◌}
use Rattle.wac_component.specs.Id.{Id}
use Rattle.wac_component.specs.Collection.{Collection}
use Rattle.wac_component.specs.Key.{Key, interface_key}
use Rattle.wac_names.specs.Class.{Class}
use Rattle.wac_aggregator_promises.specs.Attempt.{Attempt, Sources, IsSource}
use Rattle.wac_aggregator_promises.specs.Clash.{ExportsClash, InterfacesClash, NamesClash}
use Rattle.wac_aggregator_promises.specs.Entries.{IsIdentifiedOn}
use Rattle.wac_aggregator_promises.specs.Reason.{CallRefusal, kinds, mismatch, unexplained, used_interface, used_name, no_identifier, owner_without_identifier, taken, cycle, IsReason, ImportClashes}

-- a source that is an interface with an identifier on the track
pub record IsSourceOn (sources : Sources) (t : Class) (c : Collection) (k : Key) : Type 0 where
  pub source : IsSource sources c k
  pub id : Id
  pub is_interface : k ≡ interface_key id
  pub is_on : IsIdentifiedOn c id t

abbrev pub IsWitReason : Attempt → CallRefusal → Type 0
IsWitReason a mismatch = ImportClashes a ⊎ ((t : Class) × ExportsClash (IsSourceOn a.sources t))
IsWitReason a (used_interface used expected found) = (t : Class) × InterfacesClash (IsSourceOn a.sources t) used expected found
IsWitReason a (used_name used) = (t : Class) × NamesClash (IsSourceOn a.sources t) used
IsWitReason a unexplained = ⊥
IsWitReason a (kinds existing found) = IsReason a (kinds existing found)
IsWitReason a (no_identifier used) = IsReason a (no_identifier used)
IsWitReason a (owner_without_identifier name) = IsReason a (owner_without_identifier name)
IsWitReason a (taken name) = IsReason a (taken name)
IsWitReason a (cycle name) = IsReason a (cycle name)
