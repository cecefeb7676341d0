-- What is known while paths are followed.
use Rattle.std.specs.Prelude.{◌≡◌, ℕ, Contains, List, slice_get, Some, Vec}
use Rattle.std.specs.declared.alloc.Global.{Global}
use Rattle.wac_wit_refusals_sites.specs.Paths.{HasPathOf, HoldsBody, LeadsToItem}
use Rattle.wac_wit_refusals_sites.specs.declared.judge.Judge.{Judge}
use Rattle.wac_wit_refusals_sites.specs.declared.led.LedTo.{LedTo}
use Rattle.wac_wit_refusals_sites.specs.declared.paths.PlacedPath.{PlacedPath}
use Rattle.wac_wit_refusals_sites.specs.declared.paths.SoughtPath.{SoughtPath}
use Rattle.wac_wit_scopes.specs.Scopes.{IsKnownScope, scope_syntax}
use Rattle.wac_wit_scopes.specs.WitSources.{HaveOneName, IsScopeOf, PackageId, ScopeSyntax, WitSources}
use Rattle.wac_wit_scopes.specs.declared.scopes.ScopeItems.{ScopeItems}
use Rattle.wac_wit_syntax.specs.declared.tree.Path.{Path}
use Rattle.wac_wit_syntax.specs.declared.tree.TopItem.{TopItem}
use Rattle.wac_wit_refusals_sites.specs.Sites.{BodySyntax}

-- what is found at a place is said to stand there
pub record IsPlacedItem (j : Judge) (l : LedTo) : Type 0 where
  pub scope : slice_get j.scopes.items l.place.scope ≡ Some l.scope
  pub item : slice_get l.scope.items.now l.place.item ≡ Some l.item.now

-- a path leads to what was found
pub record IsLedTo (of : WitSources) (j : Judge) (w : ScopeItems) (path : Path) (l : LedTo) : Type 0 where
  pub known : IsKnownScope of l.scope
  pub placed : IsPlacedItem j l
  pub leads : LeadsToItem of (scope_syntax w) path (scope_syntax l.scope) l.item.now

-- a path of an item
abbrev pub IsPathOf : WitSources → TopItem → SoughtPath → Type 0
IsPathOf of t p = HasPathOf of t p.path.now p.seeks

abbrev pub ArePathsOf : WitSources → TopItem → List SoughtPath → Type 0
ArePathsOf of t ps = (p : SoughtPath) → Contains ps p → IsPathOf of t p

-- paths of an item stay such as others are put behind them
abbrev pub AddsPathsOf : WitSources → TopItem → Vec SoughtPath Global → Vec SoughtPath Global → Type 0
AddsPathsOf of t old new = ArePathsOf of t old.items → ArePathsOf of t new.items

-- paths of whatever holds a body stay such as others are put behind them
abbrev pub AddsForBody : WitSources → BodySyntax → Vec SoughtPath Global → Vec SoughtPath Global → Type 0
AddsForBody of b old new = (t : TopItem) → HoldsBody of t b → AddsPathsOf of t old new

-- an item of a scope that is known
pub record IsKnownItem (of : WitSources) (w : ScopeItems) (t : TopItem) : Type 0 where
  pub known : IsKnownScope of w
  pub among : Contains w.items.now t

-- a path in a file
pub record IsKnownPath (of : WitSources) (file : ℕ) (p : PlacedPath) : Type 0 where
  pub scope : IsKnownScope of p.scope
  pub in_file : p.scope.file ≡ file
  pub item : TopItem
  pub among : Contains p.scope.items.now item
  pub has : HasPathOf of item p.path.now p.seeks

abbrev pub AreKnownPaths : WitSources → ℕ → List PlacedPath → Type 0
AreKnownPaths of file ps = (p : PlacedPath) → Contains ps p → IsKnownPath of file p

-- paths of a file stay such as others are put behind them
abbrev pub AddsPaths : WitSources → ℕ → Vec PlacedPath Global → Vec PlacedPath Global → Type 0
AddsPaths of file old new = AreKnownPaths of file old.items → AreKnownPaths of file new.items

-- another version of a package is there
pub record HasOtherVersion (of : WitSources) (p : PackageId) : Type 0 where
  pub other : ScopeSyntax
  pub there : IsScopeOf of other
  pub one_name : HaveOneName other.package p
  pub differs : other.package ≡ p → ⊥
