-- Scopes as the program has them.
use Rattle.std.specs.Prelude.{◌≡◌, ℕ, true, List, Contains, Option, Some, None, slice_get}
use Rattle.wac_model.specs.Text.{Text}
use Rattle.wac_wit_syntax.specs.declared.tree.PackageName.{PackageName}
use Rattle.wac_wit_syntax.specs.declared.tree.Path.{Path}
use Rattle.wac_wit_syntax.specs.declared.tree.TopItem.TheVariants as top
use Rattle.wac_wit_syntax.specs.declared.tree.TopUse.{TopUse}
use Rattle.wac_wit_scopes.specs.WitSources.{HaveOneName, IsInGroup, IsOnlyVersion, IsScopeAt, IsScopeOf, ScopeSyntax, WitSources}
use Rattle.wac_wit_scopes.specs.WitSources.{given_name, ident_text, package_id}
use Rattle.wac_wit_scopes.specs.declared.scopes.ScopeItems.{ScopeItems}

abbrev pub scope_syntax : ScopeItems → ScopeSyntax
scope_syntax w = record { «package» = package_id w.package.now; items = w.items.now }

-- where the items of a scope of what is read stand, in which file and which group of files, and whether it is said that no other
-- version is there, which is so
pub record IsKnownScope (of : WitSources) (w : ScopeItems) : Type 0 where
  pub is_scope : IsScopeOf of (scope_syntax w)
  pub in_file : IsScopeAt of w.file (scope_syntax w)
  pub in_group : IsInGroup of (package_id w.package.now) w.group
  pub alone : w.is_alone ≡ true → IsOnlyVersion of (package_id w.package.now)

-- a scope is one of those that were found
pub record HasScope (ws : List ScopeItems) (w : ScopeSyntax) : Type 0 where
  pub scope : ScopeItems
  pub among : Contains ws scope
  pub is : scope_syntax scope ≡ w

-- a name of a package is that of a scope's package: with its version, or without one where the scope says that there is no other
pub data IsNamedAs (n : PackageName) (w : ScopeItems) : Type 0 where
  as_it_is : package_id n ≡ package_id w.package.now → IsNamedAs n w
  as_alone : n.version ≡ None → w.is_alone ≡ true → HaveOneName (package_id w.package.now) (package_id n) → IsNamedAs n w

-- the package of a path in a scope is that of another one
abbrev pub IsPackageAt : ScopeItems → Option PackageName → ScopeItems → Type 0
IsPackageAt from None to = package_id from.package.now ≡ package_id to.package.now
IsPackageAt from (Some n) to = IsNamedAs n to

-- a path leads from a scope to a name in another one: by itself, or by the `use` at an index
pub data LeadsBy (from : ScopeItems) (path : Path) (to : ScopeItems) (n : Text) : Option ℕ → Type 0 where
  by_itself : ident_text path.name ≡ n → IsPackageAt from path.package to → LeadsBy from path to n None
  by_use_at : {i : ℕ} (u : TopUse) → path.package ≡ None → slice_get from.items.now i ≡ Some (top.Use u) → given_name u.path.name u.alias ≡ ident_text path.name
      → ident_text u.path.name ≡ n → IsPackageAt from u.path.package to → LeadsBy from path to n (Some i)
