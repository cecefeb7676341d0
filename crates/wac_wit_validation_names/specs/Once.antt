-- What is known of the names that interfaces give.
use Rattle.std.specs.Prelude.{◌≡◌, ℕ, List, Contains, Option, Some, slice_get}
use Rattle.wac_model.specs.Text.{Text}
use Rattle.wac_wit_names.specs.declared.features.Features.{Features}
use Rattle.wac_wit_syntax.specs.declared.tree.InterfaceDecl.{InterfaceDecl}
use Rattle.wac_wit_syntax.specs.declared.tree.InterfaceItem.{InterfaceItem}
use Rattle.wac_wit_syntax.specs.declared.tree.InterfaceItem.TheVariants as inside
use Rattle.wac_wit_syntax.specs.declared.tree.TopItem.{TopItem}
use Rattle.wac_wit_syntax.specs.declared.tree.TopItem.TheVariants as top
use Rattle.wac_wit_scopes.specs.WitSources.{IsEnabled, WitSources, ident_text}
use Rattle.wac_wit_validation_names.specs.GivenNames.{GivesNewName, GivesTypeItem, GivesUseItem, HoldsWith}
use Rattle.wac_wit_validation_names.specs.declared.given.NamePlace.{NamePlace}

-- an item gives its names at the place, if it is there
abbrev pub GivesInner : WitSources → (Text → Option NamePlace) → NamePlace → InterfaceItem → Type 0
GivesInner of given p (inside.Use u) = GivesUseItem of given (λ n. Some n) p u
GivesInner of given p (inside.Type t) = GivesTypeItem of given (λ n. Some n) p t
GivesInner of given p (inside.Func f) = IsEnabled of f.gates → GivesNewName given (λ n. Some n) (ident_text f.name) p

abbrev pub GivesInnerAt : WitSources → (Text → Option NamePlace) → ℕ → InterfaceItem → Type 0
GivesInnerAt of given i t = GivesInner of given (record { layer = 0; item = i; part = 0 }) t

abbrev pub GivesInside : WitSources → (Text → Option NamePlace) → List InterfaceItem → Type 0
GivesInside of given is = (i : ℕ) (t : InterfaceItem) → slice_get is i ≡ Some t → GivesInnerAt of given i t

-- an interface's items give each name once
pub record InsideGivesOnce (of : WitSources) (is : List InterfaceItem) : Type 0 where
  pub given : Text → Option NamePlace
  pub gives : GivesInside of given is

-- an item gives each name once, if it is an interface that is there
abbrev pub ItemGivesOnce : Features → TopItem → Type 0
ItemGivesOnce features t = HoldsWith features (λ of. (d : InterfaceDecl) → t ≡ top.Interface d → IsEnabled of d.gates → InsideGivesOnce of d.items.items)

abbrev pub ItemsGiveOnce : Features → List TopItem → Type 0
ItemsGiveOnce features ts = (t : TopItem) → Contains ts t → ItemGivesOnce features t
