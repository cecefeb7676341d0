-- What is known of the names that items of interfaces and worlds give, and where each is given.
use Rattle.std.specs.Prelude.{◌≡◌, ◌≢◌, ℕ, ◌+◌, List, Option, Some, Vec, slice_get}
use Rattle.std.specs.declared.alloc.Global.{Global}
use Rattle.wac_model.specs.Text.{Text}
use Rattle.wac_wit_names.specs.Features.{has_feature}
use Rattle.wac_wit_names.specs.declared.features.Features.{Features}
use Rattle.wac_wit_syntax.specs.declared.tree.Method.{Method}
use Rattle.wac_wit_syntax.specs.declared.tree.Rename.{Rename}
use Rattle.wac_wit_syntax.specs.declared.tree.TypeDef.TheVariants as def
use Rattle.wac_wit_syntax.specs.declared.tree.TypeItem.{TypeItem}
use Rattle.wac_wit_syntax.specs.declared.tree.UseItem.{UseItem}
use Rattle.wac_wit_scopes.specs.WitSources.{IsEnabled, WitSources, given_name, ident_text}
use Rattle.wac_wit_validation_types.specs.Functions.{method_name}
use Rattle.wac_wit_validation_types.specs.Placed.{PlacedInterface, placed_identifier}
use Rattle.wac_wit_validation_names.specs.declared.given.NamePlace.{NamePlace}

-- these features are on
abbrev pub HasFeatures : Features → WitSources → Type 0
HasFeatures features of = (n : Text) → of.is_on n ≡ has_feature features n

-- this holds of whatever has the features
abbrev pub HoldsWith : Features → (WitSources → Type 0) → Type 0
HoldsWith features Holds = (of : WitSources) → HasFeatures features of → Holds of

-- a name is given at the place, and is no identifier of an interface
pub record IsGivenAt (given : Text → Option NamePlace) (n : Text) (p : NamePlace) : Type 0 where
  pub at : given n ≡ Some p
  pub plain : (i : PlacedInterface) → n ≢ placed_identifier i

-- what a name becomes is
pub record GivesNewName (given : Text → Option NamePlace) (new : Text → Option Text) (n : Text) (p : NamePlace) : Type 0 where
  pub becomes : Text
  pub is : new n ≡ Some becomes
  pub given_at : IsGivenAt given becomes p

-- each name that a `use` gives is, with its index there
abbrev pub GivesRename : (Text → Option NamePlace) → (Text → Option Text) → NamePlace → ℕ → Rename → Type 0
GivesRename given new p j r = GivesNewName given new (given_name r.name r.alias) (record p { part = j })

abbrev pub GivesUsed : (Text → Option NamePlace) → (Text → Option Text) → NamePlace → List Rename → Type 0
GivesUsed given new p rs = (j : ℕ) (r : Rename) → slice_get rs j ≡ Some r → GivesRename given new p j r

abbrev pub GivesUseItem : WitSources → (Text → Option NamePlace) → (Text → Option Text) → NamePlace → UseItem → Type 0
GivesUseItem of given new p u = IsEnabled of u.gates → GivesUsed given new p u.names.items

-- that of a resource's function is, with one more than its index
abbrev pub GivesMethodAt : WitSources → (Text → Option NamePlace) → Text → NamePlace → Method → Type 0
GivesMethodAt of given resource p m = IsEnabled of m.gates → IsGivenAt given (method_name m.kind resource (ident_text m.name)) p

abbrev pub GivesMethod : WitSources → (Text → Option NamePlace) → Text → NamePlace → ℕ → Method → Type 0
GivesMethod of given resource p j m = GivesMethodAt of given resource (record p { part = j + 1 }) m

abbrev pub GivesMethods : WitSources → (Text → Option NamePlace) → Text → NamePlace → List Method → Type 0
GivesMethods of given resource p ms = (j : ℕ) (m : Method) → slice_get ms j ≡ Some m → GivesMethod of given resource p j m

abbrev pub GivesFuncs : WitSources → (Text → Option NamePlace) → (Text → Option Text) → NamePlace → TypeItem → Type 0
GivesFuncs of given new p t = (ms : Vec Method Global) → t.def ≡ def.Resource ms → (resource : Text) → new (ident_text t.name) ≡ Some resource → GivesMethods of given resource p ms.items

-- a type's name is, and those of its functions, if it is a resource
pub record GivesDefined (of : WitSources) (given : Text → Option NamePlace) (new : Text → Option Text) (p : NamePlace) (t : TypeItem) : Type 0 where
  pub own : GivesNewName given new (ident_text t.name) p
  pub funcs : GivesFuncs of given new p t

abbrev pub GivesTypeItem : WitSources → (Text → Option NamePlace) → (Text → Option Text) → NamePlace → TypeItem → Type 0
GivesTypeItem of given new p t = IsEnabled of t.gates → GivesDefined of given new p t
