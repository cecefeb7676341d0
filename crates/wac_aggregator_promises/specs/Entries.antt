-- Interfaces on tracks, and walks by uses.
use Rattle.std.specs.Prelude.{◌≡◌, Some}
use Rattle.wac_model.specs.Text.{Text}
use Rattle.wac_component.specs.Id.{Id}
use Rattle.wac_component.specs.Collection.{Collection, UseContent}
use Rattle.wac_component.specs.Implicit.{identifier}
use Rattle.wac_component.specs.Key.{interface_key}
use Rattle.wac_component.specs.Entries.{HasUse}
use Rattle.wac_names.specs.Class.{Class, class_of}

-- the interface has an identifier, which is on the track
pub record IsIdentifiedOn (c : Collection) (i : Id) (t : Class) : Type 0 where
  pub name : Text
  pub identified : identifier c i ≡ Some name
  pub on_track : class_of name ≡ t

-- the interface with the first id uses the other
pub record Uses (c : Collection) (i j : Id) : Type 0 where
  pub name : Text
  pub content : UseContent
  pub has : HasUse c (interface_key i) name content
  pub is_of : content.interface ≡ j

-- no use or more leads from the one interface to the other
pub data ReachesByUses (c : Collection) : Id → Id → Type 0 where
  stay : {i : Id} → ReachesByUses c i i
  step : {i j k : Id} → Uses c i j → ReachesByUses c j k → ReachesByUses c i k
