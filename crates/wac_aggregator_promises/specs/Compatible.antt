-- When the tracks of a list of WIT interfaces are compatible.
use Rattle.std.specs.Prelude.{◌≡◌, List}
use Rattle.wac_model.specs.Text.{Text}
use Rattle.wac_component.specs.Id.{Id}
use Rattle.wac_component.specs.Collection.{Collection, UseContent}
use Rattle.wac_component.specs.Key.{interface_key}
use Rattle.wac_component.specs.Entries.{HasUse}
use Rattle.wac_names.specs.Class.{Class}
use Rattle.wac_aggregator_promises.specs.Call.{Call}
use Rattle.wac_aggregator_promises.specs.Entries.{IsIdentifiedOn, Uses}
use Rattle.wac_aggregator_promises.specs.TreeSets.{HaveLowerBound}
use Rattle.wac_aggregator_promises.specs.WitList.{IsMemberOn, IsMemberTree, IsPlainTree}

-- two uses are of interfaces on one track, and have equal `name`
pub record AreUsesAlike (c : Collection) (u : UseContent) (d : Collection) (v : UseContent) : Type 0 where
  pub track : Class
  pub first_on : IsIdentifiedOn c u.interface track
  pub second_on : IsIdentifiedOn d v.interface track
  pub names : u.name ≡ v.name

-- uses of members on one track under one name are alike
abbrev pub HaveUsesAlike : List Call → Type 0
HaveUsesAlike calls = (t : Class) (c d : Collection) (i j : Id) (name : Text) (u v : UseContent)
    → IsMemberOn calls t c i → IsMemberOn calls t d j
    → HasUse c (interface_key i) name u → HasUse d (interface_key j) name v → AreUsesAlike c u d v

-- a member on this track uses a member on that one
pub record TrackUses (calls : List Call) (s t : Class) : Type 0 where
  pub types : Collection
  pub user : Id
  pub used : Id
  pub user_on : IsMemberOn calls s types user
  pub used_on : IsMemberOn calls t types used
  pub uses : Uses types user used

-- a step or more of a relation of tracks lead from the one to the other
pub data LeadsOver (R : Class → Class → Type 0) : Class → Class → Type 0 where
  one : {s t : Class} → R s t → LeadsOver R s t
  more : {s t u : Class} → R s t → LeadsOver R t u → LeadsOver R s u

-- no track leads back to itself
abbrev pub HasNoCycle : (Class → Class → Type 0) → Type 0
HasNoCycle R = (t : Class) → ¬ LeadsOver R t t

pub record IsCompatibleWitList (calls : List Call) : Type 0 where
  pub members : (t : Class) → HaveLowerBound (IsMemberTree calls t)
  pub plain_items : (t : Class) → HaveLowerBound (IsPlainTree calls t)
  pub uses : HaveUsesAlike calls
  pub no_cycle : HasNoCycle (TrackUses calls)
