-- Uses that may stand in one entry.
use Rattle.std.specs.Prelude.{◌≡◌, List, Contains, Option, Some, None}
use Rattle.std.specs.Str.{bytes_eq}
use Rattle.std.specs.declared.alloc.Global.{Global}
use Rattle.std.specs.declared.string.String.{String}
use Rattle.indexmap.specs.IndexMap.{IndexMap}
use Rattle.wac_model.specs.Text.{Text, lookup}
use Rattle.wac_component.specs.Collection.{Collection, UseContent}
use Rattle.wac_component.specs.Content.{named, use_content}
use Rattle.wac_component.specs.Entries.{uses_at}
use Rattle.wac_component.specs.Implicit.{identifier}
use Rattle.wac_component.specs.Key.{Key, interface_key, world_key}
use Rattle.wac_component.specs.declared.items.ItemKind.{ItemKind}
use Rattle.wac_component.specs.declared.items.ItemKind.TheVariants.{«Type» as OfType, Instance, Component}
use Rattle.wac_component.specs.declared.items.Type.TheVariants.{Interface as TypeInterface, World as TypeWorld}
use Rattle.wac_component.specs.declared.interfaces.UsedType.{UsedType}
use Rattle.wac_names.specs.Class.{class_of}

-- their interfaces are on one track, if both have identifiers
abbrev pub AreOnOneTrack : Collection → UseContent → UseContent → Type 0
AreOnOneTrack c u v = (m n : Text) → identifier c u.interface ≡ Some m → identifier c v.interface ≡ Some n → class_of m ≡ class_of n

-- and they are of one name there
pub record AreOfOne (c : Collection) (u v : UseContent) : Type 0 where
  pub tracks : AreOnOneTrack c u v
  pub names : u.name ≡ v.name

-- so is each use of the second list with what the first has under its name
abbrev pub UsesAgree : Collection → List (Text × UseContent) → List (Text × UseContent) → Type 0
UsesAgree c us vs = (name : Text) (u v : UseContent) → lookup bytes_eq us name ≡ Some u → Contains vs (name, v) → AreOfOne c u v

-- and those of two entries
abbrev pub EntriesAgree : Collection → Key → Key → Type 0
EntriesAgree c k j = UsesAgree c (uses_at c k) (uses_at c j)

-- what a map from names to uses holds
abbrev pub use_list : {S : Type 0} → IndexMap (String Global) UsedType S → List (Text × UseContent)
use_list m = named use_content m.entries

-- the entries of two items of one case, if those use: instances, components, or
-- types that are interfaces or worlds
abbrev pub users : ItemKind → ItemKind → Option (Key × Key)
users (Instance a) (Instance b) = Some (interface_key a, interface_key b)
users (Component a) (Component b) = Some (world_key a, world_key b)
users (OfType (TypeInterface a)) (OfType (TypeInterface b)) = Some (interface_key a, interface_key b)
users (OfType (TypeWorld a)) (OfType (TypeWorld b)) = Some (world_key a, world_key b)
users a b = None

-- and so do the uses of two such items
abbrev pub ItemsAgree : Collection → ItemKind → ItemKind → Type 0
ItemsAgree c a b = (k j : Key) → users a b ≡ Some (k, j) → EntriesAgree c k j
