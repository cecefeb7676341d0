-- What is known of the names that worlds give, with those that come into them.
use Rattle.std.specs.Prelude.{◌≡◌, ℕ, List, Option, Some, slice_get}
use Rattle.std.specs.Borrow.{Bor}
use Rattle.wac_model.specs.Text.{Text}
use Rattle.wac_component.specs.declared.worlds.ExternKind.{ExternKind}
use Rattle.wac_component.specs.declared.worlds.ExternKind.TheVariants.{Import, Export}
use Rattle.wac_wit_names.specs.declared.features.Features.{Features}
use Rattle.wac_wit_syntax.specs.declared.tree.Extern.{Extern}
use Rattle.wac_wit_syntax.specs.declared.tree.Extern.TheVariants as extern
use Rattle.wac_wit_syntax.specs.declared.tree.ExternItem.{ExternItem}
use Rattle.wac_wit_syntax.specs.declared.tree.WorldItem.{WorldItem}
use Rattle.wac_wit_syntax.specs.declared.tree.WorldItem.TheVariants as of_world
use Rattle.wac_wit_scopes.specs.WitSources.{IsEnabled, WitSources, ident_text}
use Rattle.wac_wit_validation_names.specs.GivenNames.{GivesNewName, GivesTypeItem, GivesUseItem, HoldsWith}
use Rattle.wac_wit_validation_names.specs.Once.{InsideGivesOnce}
use Rattle.wac_wit_validation_types.specs.Reading.{new_name}
use Rattle.wac_wit_validation_names.specs.declared.given.NamePlace.{NamePlace}
use Rattle.wac_wit_validation_names.specs.declared.layers.Layer.{Layer}
use Rattle.wac_wit_validation_types.specs.declared.new_names.NewNames.{NewNames}

-- the name of an import, or of an export, is given; an interface that is written there gives each name once
abbrev pub GivesWhat : WitSources → (Text → Option NamePlace) → NewNames → NamePlace → Extern → Type 0
GivesWhat of given names p (extern.Func id sig) = GivesNewName given (new_name names) (ident_text id) p
GivesWhat of given names p (extern.Inline id is) = GivesNewName given (new_name names) (ident_text id) p × InsideGivesOnce of is.items
GivesWhat of given names p x = Unit {0}

abbrev pub GivesExtern : WitSources → (Text → Option NamePlace) → NewNames → NamePlace → ExternItem → Type 0
GivesExtern of given names p e = IsEnabled of e.gates → GivesWhat of given names p e.what

-- an item gives its names to imports, or to exports
abbrev pub GivesItem : WitSources → (Text → Option NamePlace) → ExternKind → NewNames → NamePlace → WorldItem → Type 0
GivesItem of given Import names p (of_world.Use u) = GivesUseItem of given (new_name names) p u
GivesItem of given Import names p (of_world.Type t) = GivesTypeItem of given (new_name names) p t
GivesItem of given Import names p (of_world.Import e) = GivesExtern of given names p e
GivesItem of given Export names p (of_world.Export e) = GivesExtern of given names p e
GivesItem of given k names p x = Unit {0}

-- so do all items of a layer
abbrev pub GivesAt : WitSources → (Text → Option NamePlace) → ExternKind → NewNames → ℕ → ℕ → Bor WorldItem → Type 0
GivesAt of given k names a b t = GivesItem of given k names (record { layer = a; item = b; part = 0 }) t.now

abbrev pub GivesItems : WitSources → (Text → Option NamePlace) → ExternKind → NewNames → ℕ → List (Bor WorldItem) → Type 0
GivesItems of given k names a ts = (b : ℕ) (t : Bor WorldItem) → slice_get ts b ≡ Some t → GivesAt of given k names a b t

abbrev pub GivesLayer : WitSources → (Text → Option NamePlace) → ExternKind → ℕ → Layer → Type 0
GivesLayer of given k a l = GivesItems of given k l.names a l.items.items

abbrev pub GivesLayers : WitSources → (Text → Option NamePlace) → ExternKind → List Layer → Type 0
GivesLayers of given k ls = (a : ℕ) (l : Layer) → slice_get ls a ≡ Some l → GivesLayer of given k a l

-- the layers of a world give each name of an import, or of an export, once
pub record GiveOnce (features : Features) (k : ExternKind) (ls : List Layer) : Type 0 where
  pub given : Text → Option NamePlace
  pub gives : HoldsWith features (λ of. GivesLayers of given k ls)
