-- The interfaces and worlds that a package defines. A package of WIT is a component that exports,
-- under each name, the type of a component which exports that interface or that world alone, under
-- its whole name (WIT.md of the Component Model, "Package Format").
use Rattle.std.specs.Prelude.{◌≡◌, ◌⊎◌, List, [], ◌∷◌, Option, Some, None, MatchOption, slice_get}
use Rattle.wac_model.specs.Text.{Text}
use Rattle.wac_component.specs.Collection.{Collection, WorldContent}
use Rattle.wac_component.specs.Id.{Id}
use Rattle.wac_component.specs.declared.items.ItemKind.{ItemKind}
use Rattle.wac_component.specs.declared.items.ItemKind.TheVariants.{«Type» as OfType, Instance, Component}
use Rattle.wac_component.specs.declared.items.Type.TheVariants.{Interface as TypeInterface, World as TypeWorld}
use Rattle.wac_package.specs.InterfaceName.{IsInterfaceName}

-- the interface of an instance, or the world of a component, as a type
abbrev pub defined_type : ItemKind → Option ItemKind
defined_type (Instance i) = Some (OfType (TypeInterface i))
defined_type (Component w) = Some (OfType (TypeWorld w))
defined_type k = None

-- an export of this kind defines such a type: it is the type of a world that exports an instance or
-- a component of that type and nothing else, under the name of an interface
pub record Defines (c : Collection) (kind defined : ItemKind) : Type 0 where
  pub world : Id
  pub content : WorldContent
  pub name : Text
  pub item : ItemKind
  pub world_type : kind ≡ OfType (TypeWorld world)
  pub entry : slice_get c.worlds world.index ≡ Some content
  pub alone : content.exports ≡ (name, item) ∷ []
  pub interface_name : IsInterfaceName name
  pub of_item : defined_type item ≡ Some defined

abbrev pub DefinesNothing : Collection → ItemKind → Type 0
DefinesNothing c kind = (defined : ItemKind) → Defines c kind defined → ⊥

-- what an export of this kind defines, if it defines anything
abbrev pub IsDefinition : Collection → ItemKind → Option ItemKind → Type 0
IsDefinition c kind r = MatchOption r (DefinesNothing c kind) (Defines c kind)

-- the definitions among these exports, in order: each export's name with what it defines; one
-- that defines nothing is left out
abbrev pub AreDefinitions : Collection → List (Text × ItemKind) → List (Text × ItemKind) → Type 0
AreDefinitions c [] ds = ds ≡ []
AreDefinitions c (e ∷ es) ds = (DefinesNothing c e.1 × AreDefinitions c es ds)
    ⊎ ((defined : ItemKind) × (others : List (Text × ItemKind)) × Defines c e.1 defined × AreDefinitions c es others × (ds ≡ (e.0, defined) ∷ others))

-- exports have one list of definitions
abbrev pub DefinitionsAreDetermined : Type 0
DefinitionsAreDetermined = (c : Collection) (es ds fs : List (Text × ItemKind)) → AreDefinitions c es ds → AreDefinitions c es fs → ds ≡ fs
