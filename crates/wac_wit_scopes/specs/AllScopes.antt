-- What is known while all scopes are found.
use Rattle.std.specs.Prelude.{◌≡◌, ℕ, List, Contains, Option, Some, IsSome, slice_get}
use Rattle.std.specs.Borrow.{Bor}
use Rattle.wac_wit_names.specs.declared.sources.SourceFile.{SourceFile}
use Rattle.wac_wit_syntax.specs.declared.tree.Document.{Document}
use Rattle.wac_wit_syntax.specs.declared.tree.NestedPackage.{NestedPackage}
use Rattle.wac_wit_syntax.specs.declared.tree.PackageName.{PackageName}
use Rattle.wac_wit_scopes.specs.Scopes.{HasScope}
use Rattle.wac_wit_scopes.specs.WitSources.{package_id, scope_in}
use Rattle.wac_wit_scopes.specs.declared.scopes.ScopeItems.{ScopeItems}

-- the package of a group is known, and it is this one
pub record HasGroup (known : ℕ → Option (Bor PackageName)) (group : ℕ) (n : PackageName) : Type 0 where
  pub package_name : Bor PackageName
  pub at : known group ≡ Some package_name
  pub same : package_id package_name.now ≡ package_id n

-- if a file names a package, the one of its group is known, and it is this one
abbrev pub HasGroupOf : (ℕ → Option (Bor PackageName)) → ℕ → Document → Type 0
HasGroupOf known group d = (n : PackageName) → d.package ≡ Some n → HasGroup known group n

-- each group of which a file names the package is known
abbrev pub HasGroups : (ℕ → Option (Bor PackageName)) → List SourceFile → List Document → Type 0
HasGroups known files documents =
    (i : ℕ) (f : SourceFile) (d : Document) → slice_get files i ≡ Some f → slice_get documents i ≡ Some d → HasGroupOf known f.group d

-- the package of each file's group is known
abbrev pub AreGroupsKnown : (ℕ → Option (Bor PackageName)) → List SourceFile → List Document → Type 0
AreGroupsKnown known files documents = (i : ℕ) (f : SourceFile) (d : Document) → slice_get files i ≡ Some f → slice_get documents i ≡ Some d → IsSome (known f.group)

abbrev pub HasNestedScopes : List ScopeItems → List NestedPackage → Type 0
HasNestedScopes ws ps = (p : NestedPackage) → Contains ps p → HasScope ws (scope_in p.name p.items.items)

-- the scopes of a file of a package were found
pub record HasScopes (ws : List ScopeItems) (n : PackageName) (d : Document) : Type 0 where
  pub own : HasScope ws (scope_in n d.items.items)
  pub nested : HasNestedScopes ws d.packages.items

-- the package of a file's group is known, and the file's scopes were found
pub record HasFileScopes (ws : List ScopeItems) (known : ℕ → Option (Bor PackageName)) (group : ℕ) (d : Document) : Type 0 where
  pub package_name : Bor PackageName
  pub at : known group ≡ Some package_name
  pub scopes : HasScopes ws package_name.now d

-- the scopes of all files were found
abbrev pub HasAllScopes : List ScopeItems → (ℕ → Option (Bor PackageName)) → List SourceFile → List Document → Type 0
HasAllScopes ws known files documents = (i : ℕ) (f : SourceFile) (d : Document) → slice_get files i ≡ Some f → slice_get documents i ≡ Some d → HasFileScopes ws known f.group d
