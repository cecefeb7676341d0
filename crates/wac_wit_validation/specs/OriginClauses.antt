-- What is known of where types come from while an entry is compared with what is written.
use Rattle.std.specs.Prelude.{◌≡◌, ℕ, List, Contains, Some, slice_get}
use Rattle.std.specs.Borrow.{Bor}
use Rattle.wac_model.specs.Text.{Text}
use Rattle.wac_component.specs.Collection.{InterfaceContent, UseContent, WorldContent}
use Rattle.wac_wit_syntax.specs.declared.tree.InterfaceItem.{InterfaceItem}
use Rattle.wac_wit_syntax.specs.declared.tree.InterfaceItem.TheVariants as inside
use Rattle.wac_wit_syntax.specs.declared.tree.Path.{Path}
use Rattle.wac_wit_syntax.specs.declared.tree.Rename.{Rename}
use Rattle.wac_wit_syntax.specs.declared.tree.UseItem.{UseItem}
use Rattle.wac_wit_syntax.specs.declared.tree.WorldItem.{WorldItem}
use Rattle.wac_wit_syntax.specs.declared.tree.WorldItem.TheVariants as of_world
use Rattle.wac_wit_validation.specs.Checking.{IsSettingAt, Knows, LeadsToFound}
use Rattle.wac_wit_validation_types.specs.Exports.{Offers}
use Rattle.wac_wit_scopes.specs.Scopes.{scope_syntax}
use Rattle.wac_wit_validation_types.specs.Denoted.{Setting, interface_setting}
use Rattle.wac_wit_validation_types.specs.Origins.{AreOwnersOf, use_at}
use Rattle.wac_wit_validation_types.specs.Placed.{PlacedWorld}
use Rattle.wac_wit_scopes.specs.WitSources.{IsEnabled, WitSources}
use Rattle.wac_wit_validation.specs.WorldChecking.{IsLayerOf, KnowsWorlds}
use Rattle.wac_wit_validation_types.specs.Worlds.{world_setting}
use Rattle.wac_wit_validation_names.specs.declared.layers.Layer.{Layer}
use Rattle.wac_wit_validation_names.specs.declared.noted.NotedUses.{NotedUses}
use Rattle.wac_wit_scopes.specs.declared.scopes.ScopeItems.{ScopeItems}
use Rattle.wac_wit_validation_names.specs.declared.places.FoundInterface.{FoundInterface}
use Rattle.wac_wit_validation.specs.declared.validator.Validator.{Validator}
use Rattle.wac_wit_validation_names.specs.Noted.{HasUseRoot, RenamesAs, TellsName, TellsType, noted_uses}

-- the same of the interface that a path leads to
pub record TellsUsed (v : Validator) (s : Setting) (us : List (Text × UseContent)) (p : Path) (r : Rename) : Type 0 where
  pub found : FoundInterface
  pub leads : LeadsToFound v s p found
  pub entry : InterfaceContent
  pub at : slice_get v.types.now.interfaces found.id.index ≡ Some entry
  pub told : TellsName us s.renames entry.uses found.id r

-- it is said of each type that is used where it comes from
abbrev pub TellsUse : Validator → Setting → List (Text × UseContent) → UseItem → Type 0
TellsUse v s us u = IsEnabled s.sources u.gates → (r : Rename) → Contains u.names.items r → TellsUsed v s us u.path r

abbrev pub TellsItem : Validator → Setting → List (Text × UseContent) → InterfaceItem → Type 0
TellsItem v s us (inside.Use u) = TellsUse v s us u
TellsItem v s us (inside.Type t) = IsEnabled s.sources t.gates → TellsType us s.renames t
TellsItem v s us (inside.Func f) = Unit {0}

abbrev pub TellsWorldItem : Validator → Setting → List (Text × UseContent) → WorldItem → Type 0
TellsWorldItem v s us (of_world.Use u) = TellsItem v s us (inside.Use u)
TellsWorldItem v s us (of_world.Type t) = TellsItem v s us (inside.Type t)
TellsWorldItem v s us x = Unit {0}

-- the item tells it in each setting of the scope
abbrev pub TellsItemAt : Validator → ℕ → NotedUses → InterfaceItem → Type 0
TellsItemAt v scope noted x = (s : Setting) → IsSettingAt v scope s → RenamesAs noted s.renames → TellsItem v s (noted_uses noted) x

abbrev pub TellsWorldItemAt : Validator → ℕ → NotedUses → WorldItem → Type 0
TellsWorldItemAt v scope noted x = (s : Setting) → IsSettingAt v scope s → RenamesAs noted s.renames → TellsWorldItem v s (noted_uses noted) x

-- it is said of all types of an interface where they come from
pub record TellsOrigins (v : Validator) (s : Setting) (e : InterfaceContent) : Type 0 where
  pub items : (x : InterfaceItem) → Offers s x → TellsItem v s e.uses x
  pub roots : (n : Text) (u : UseContent) → use_at e.uses n ≡ Some u → HasUseRoot v.types.now e.exports n u
  pub owners : AreOwnersOf v.types.now e.uses e.exports

abbrev pub TellsOriginsAt : Validator → ℕ → List InterfaceItem → InterfaceContent → Type 0
TellsOriginsAt v scope is e = (of : WitSources) → Knows of v → (w : ScopeItems) → slice_get v.scopes.items scope ≡ Some w → TellsOrigins v (interface_setting of (scope_syntax w) is) e

-- the items of a layer's world tell it
abbrev pub TellsLayer : Validator → List (Text × UseContent) → Layer → Type 0
TellsLayer v us l = (of : WitSources) (rss : List (List Rename)) (x : PlacedWorld) → KnowsWorlds of v → IsLayerOf of v l rss x → (b : Bor WorldItem)
    → Contains l.items.items b → TellsWorldItem v (world_setting of rss x) us b.now

-- it is said of all types of a world, and of the worlds that come into it, where they come from
pub record TellsWorld (v : Validator) (ls : List Layer) (e : WorldContent) : Type 0 where
  pub layers : (l : Layer) → Contains ls l → TellsLayer v e.uses l
  pub roots : (n : Text) (u : UseContent) → use_at e.uses n ≡ Some u → HasUseRoot v.types.now e.imports n u
  pub owners : AreOwnersOf v.types.now e.uses e.imports
