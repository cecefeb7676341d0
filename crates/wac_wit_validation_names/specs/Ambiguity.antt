-- What is known of names that packages and files give, so that no path leads to two interfaces or worlds.
use Rattle.std.specs.Prelude.{◌≡◌, ◌⊎◌, ℕ, List, Contains, Option, Some, None, slice_get}
use Rattle.wac_model.specs.Text.{Text}
use Rattle.wac_wit_syntax.specs.declared.tree.TopItem.{TopItem}
use Rattle.wac_wit_syntax.specs.declared.tree.TopItem.TheVariants as top
use Rattle.wac_wit_syntax.specs.declared.tree.TopUse.{TopUse}
use Rattle.wac_wit_scopes.specs.WitSources.{PackageId, given_name, ident_text, interface_identifier, package_id}
use Rattle.wac_wit_scopes.specs.declared.scopes.ScopeItems.{ScopeItems}
use Rattle.wac_wit_validation_names.specs.declared.places.ItemPlace.{ItemPlace}

-- the identifier of an interface or a world
abbrev pub item_identifier : PackageId → TopItem → Option Text
item_identifier p (top.Use u) = None
item_identifier p (top.Interface d) = Some (interface_identifier p (ident_text d.name))
item_identifier p (top.World d) = Some (interface_identifier p (ident_text d.name))

abbrev pub use_name : TopUse → Text
use_name u = given_name u.path.name u.alias

-- the name that a `use` outside of interfaces and worlds gives
abbrev pub item_use_name : TopItem → Option Text
item_use_name (top.Use u) = Some (use_name u)
item_use_name (top.Interface d) = None
item_use_name (top.World d) = None

-- what was noted stays
abbrev pub KeepsNoted : {A : Type 0} → (Text → Option A) → (Text → Option A) → Type 0
KeepsNoted {A} old new = (k : Text) (p : A) → old k ≡ Some p → new k ≡ Some p

-- each of a scope's items that has a key is noted under it
abbrev pub NotesItems : (Text → Option ItemPlace) → (TopItem → Option Text) → ℕ → List TopItem → Type 0
NotesItems noted key scope items = (i : ℕ) (t : TopItem) (k : Text) → slice_get items i ≡ Some t → key t ≡ Some k → noted k ≡ Some (record { scope = scope; item = i })

-- the interfaces and the worlds of all scopes are noted
abbrev pub NotesScopes : (Text → Option ItemPlace) → List ScopeItems → Type 0
NotesScopes noted ws = (i : ℕ) (w : ScopeItems) → slice_get ws i ≡ Some w → NotesItems noted (item_identifier (package_id w.package.now)) i w.items.now

-- a `use` gives the name that something has in its own package
pub record KeepsName (u : TopUse) : Type 0 where
  pub own : u.path.package ≡ None
  pub same : use_name u ≡ ident_text u.path.name

-- a `use` gives no name that something else has in its package
abbrev pub IsFreeUse : (Text → Option ItemPlace) → PackageId → TopUse → Type 0
IsFreeUse noted p u = KeepsName u ⊎ (noted (interface_identifier p (use_name u)) ≡ None)

-- the names that each `use` of a scope gives differ, and nothing else in its package has one
pub record HasFreeUses (noted : Text → Option ItemPlace) (w : ScopeItems) : Type 0 where
  pub once : (u x : TopUse) → Contains w.items.now (top.Use u) → Contains w.items.now (top.Use x) → use_name u ≡ use_name x → u ≡ x
  pub free : (u : TopUse) → Contains w.items.now (top.Use u) → IsFreeUse noted (package_id w.package.now) u

-- names are given once
pub record GiveNamesOnce (ws : List ScopeItems) : Type 0 where
  pub noted : Text → Option ItemPlace
  pub notes : NotesScopes noted ws
  pub uses : (i : ℕ) (w : ScopeItems) → slice_get ws i ≡ Some w → HasFreeUses noted w
