-- What is known of the names of packages while the scopes of files are found.
use Rattle.std.specs.Prelude.{◌≡◌, ℕ, true, codes, List, ◌++◌, All, Contains, Option, Some, slice_get}
use Rattle.std.specs.Borrow.{Bor}
use Rattle.wac_model.specs.Text.{Text}
use Rattle.wac_wit_syntax.specs.declared.tree.Document.{Document}
use Rattle.wac_wit_syntax.specs.declared.tree.NestedPackage.{NestedPackage}
use Rattle.wac_wit_syntax.specs.declared.tree.PackageName.{PackageName}
use Rattle.wac_wit_syntax.specs.declared.tree.TopItem.{TopItem}
use Rattle.wac_wit_scopes.specs.Scopes.{IsKnownScope}
use Rattle.wac_wit_scopes.specs.WitSources.{FileSyntax, HaveOneName, IsInGroup, IsScopeAt, IsScopeOf, NamesGroup, PackageId, ScopeSyntax, WitSources, package_id, scope_in, version_text}
use Rattle.wac_wit_scopes.specs.declared.packages.Versions.{Versions}
use Rattle.wac_wit_scopes.specs.declared.scopes.FilePlace.{FilePlace}
use Rattle.wac_wit_scopes.specs.declared.scopes.ScopeItems.{ScopeItems}

-- a tree is that of a file of the group
abbrev pub HasFile : WitSources → ℕ → Document → Type 0
HasFile of group d = Contains of.files (record { group = group; document = d })

-- a tree is that of the file at a place
abbrev pub HasFileAt : WitSources → FilePlace → Document → Type 0
HasFileAt of place d = slice_get of.files place.file ≡ Some (record { group = place.group; document = d })

-- the packages are those inside of the file at a place
abbrev pub HasNested : WitSources → FilePlace → List NestedPackage → Type 0
HasNested of place ps = (f : FileSyntax) × (slice_get of.files place.file ≡ Some f) × (f.group ≡ place.group) × (f.document.packages.items ≡ ps)

-- items of the file at a place are in a package, which is in the file's group
abbrev pub IsScopeIn : WitSources → FilePlace → PackageName → List TopItem → Type 0
IsScopeIn of place n items = IsScopeAt of place.file (scope_in n items) × IsInGroup of (package_id n) place.group

-- what is known of groups is what files name
abbrev pub AreGroups : WitSources → (ℕ → Option (Bor PackageName)) → Type 0
AreGroups of known = (group : ℕ) (n : Bor PackageName) → known group ≡ Some n → NamesGroup of group n.now

-- a file's tree is at a place, and its group names the package
abbrev pub IsFileOf : WitSources → FilePlace → PackageName → Document → Type 0
IsFileOf of place n d = HasFileAt of place d × NamesGroup of place.group n

-- what the versions of a package have in common
abbrev pub common_name : PackageId → Text
common_name p = p.namespace ++ codes ":" ++ p.name

-- if one version is known of its name, it is the package's
pub record IsKnownName (known : Text → Option Versions) (n : PackageName) : Type 0 where
  pub versions : Versions
  pub at : known (common_name (package_id n)) ≡ Some versions
  pub same : versions.is_one ≡ true → version_text versions.first.now.version ≡ version_text n.version

-- of the packages whose names are known, none is another version of this one
abbrev pub IsOnlyKnown : (Text → Option Versions) → PackageName → Type 0
IsOnlyKnown known p = (n : PackageName) → IsKnownName known n → HaveOneName (package_id n) (package_id p) → package_id n ≡ package_id p

-- the names in a file are known
pub record KnowsNamesOf (known : Text → Option Versions) (d : Document) : Type 0 where
  pub own : (n : PackageName) → d.package ≡ Some n → IsKnownName known n
  pub nested : (p : NestedPackage) → Contains d.packages.items p → IsKnownName known p.name

-- the names of all packages are known
abbrev pub KnowsAllNames : WitSources → (Text → Option Versions) → Type 0
KnowsAllNames of known = (w : ScopeSyntax) → IsScopeOf of w → (n : PackageName) × (w.package ≡ package_id n) × IsKnownName known n

-- if all names are known, scopes stay known as others are put behind them
abbrev pub AddsScopes : WitSources → (Text → Option Versions) → List ScopeItems → List ScopeItems → Type 0
AddsScopes of known old new = KnowsAllNames of known → All (IsKnownScope of) old → All (IsKnownScope of) new

-- if the packages of groups and all names are known, the scopes are
abbrev pub AreScopes : WitSources → (ℕ → Option (Bor PackageName)) → (Text → Option Versions) → List ScopeItems → Type 0
AreScopes of groups known ws = AreGroups of groups → KnowsAllNames of known → All (IsKnownScope of) ws
