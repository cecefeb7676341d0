-- The tracks on which imports are due, and the names of the imports.
use Rattle.std.specs.Prelude.{◌≡◌, ◌⊎◌, List, Some, All, Contains, map}
use Rattle.std.specs.List.{IsDistinct}
use Rattle.std.specs.declared.cmp.Ordering.TheVariants.{Greater}
use Rattle.semver.specs.Parse.{Parts}
use Rattle.wac_model.specs.Text.{Text}
use Rattle.wac_component.specs.Id.{Id}
use Rattle.wac_component.specs.Implicit.{identifier}
use Rattle.wac_component.specs.Key.{interface_key, resource_key}
use Rattle.wac_component.specs.Entries.{owner_at}
use Rattle.wac_names.specs.Class.{Class, class_of, class_eq}
use Rattle.wac_names.specs.Track.{IsTracked, version_cmp}
use Rattle.wac_aggregator_promises.specs.Call.{Call, IsCallOn}
use Rattle.wac_aggregator_promises.specs.Entries.{IsIdentifiedOn}
use Rattle.wac_aggregator_promises.specs.OpenReach.{ItemReaches, ItemOpenReaches}

-- the item openly reaches a resource whose owner has an identifier on the track
pub record OwnsOn (c : Call) (t : Class) : Type 0 where
  pub resource : Id
  pub owner : Id
  pub reached : ItemOpenReaches c.types c.kind (resource_key resource)
  pub owned : owner_at c.types resource ≡ Some owner
  pub is_on : IsIdentifiedOn c.types owner t

-- the track of a handed-in name, or of the identifier of an owner that
-- a handed-in item openly reaches
pub data IsDue (calls : List Call) (t : Class) : Type 0 where
  of_name : (c : Call) → IsCallOn calls t c → IsDue calls t
  of_owner : (c : Call) → Contains calls c → OwnsOn c t → IsDue calls t

-- both names are on one track, and the first has the higher version
pub record IsHigher (a b : Text) : Type 0 where
  pub key : Text
  pub first : Parts
  pub second : Parts
  pub first_on : IsTracked a key first
  pub second_on : IsTracked b key second
  pub higher : version_cmp first second ≡ Greater

-- the identifier of an interface that a handed-in item reaches
pub record IsReachedIdentifier (calls : List Call) (name : Text) : Type 0 where
  pub call : Call
  pub among : Contains calls call
  pub interface : Id
  pub reached : ItemReaches call.types call.kind (interface_key interface)
  pub identified : identifier call.types interface ≡ Some name

abbrev pub IsHandedInName : List Call → Text → Type 0
IsHandedInName calls name = (c : Call) × Contains calls c × (c.name ≡ name)

-- what an import may be named: a handed-in name or the identifier of an interface reached, where no
-- handed-in name on its track has a higher version
pub record IsImportName (calls : List Call) (name : Text) : Type 0 where
  pub due : IsDue calls (class_of name)
  pub source : IsHandedInName calls name ⊎ IsReachedIdentifier calls name
  pub highest : (other : Text) → IsHandedInName calls other → ¬ IsHigher other name

-- an import stands on exactly the due tracks, one on each
pub record AreImportNames (calls : List Call) (names : List Text) : Type 0 where
  pub named : All (IsImportName calls) names
  pub one_each : IsDistinct class_eq (map class_of names)
  pub all_due : (t : Class) → IsDue calls t → Contains (map class_of names) t
