-- What a package holds, as plain values.
use Rattle.std.specs.Prelude.{List, [], ℕ}
use Rattle.std.specs.Option.{option_map_or}
use Rattle.std.specs.List.{slice_get}
use Rattle.wac_model.specs.Text.{Text}
use Rattle.wac_component.specs.Collection.{Collection, WorldContent}
use Rattle.wac_component.specs.Id.{Id}
use Rattle.wac_component.specs.declared.items.ItemKind.{ItemKind}
use Rattle.wac_package.specs.Key.{KeyContent}

pub record PackageContent : Type 0 where
  pub key : KeyContent
  pub bytes : List ℕ
  -- the world of the component
  pub ty : Id
  -- the interface of its instances
  pub instance_type : Id
  -- the interfaces and worlds that it defines, by name
  pub definitions : List (Text × ItemKind)

-- the exports of a world
abbrev pub world_exports : Collection → Id → List (Text × ItemKind)
world_exports c w = option_map_or (λ (e : WorldContent). e.exports) (slice_get c.worlds w.index) []
