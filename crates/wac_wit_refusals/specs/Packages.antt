-- What is wrong with what files say of packages (WIT.md, "Package Format").
use Rattle.std.specs.Prelude.{◌≡◌, ℕ, IsTrue, Contains, Option, Some, None, slice_get, string_bytes}
use Rattle.std.specs.Char.{is_ascii_uppercase}
use Rattle.std.specs.List.{list_any}
use Rattle.wac_wit_scopes.specs.WitSources.{FileSyntax, PackageId, WitSources, package_id}
use Rattle.wac_wit_syntax.specs.declared.positions.Span.{Span}
use Rattle.wac_wit_syntax.specs.declared.tree.Document.{Document}
use Rattle.wac_wit_syntax.specs.declared.tree.Ident.{Ident}
use Rattle.wac_wit_syntax.specs.declared.tree.NestedPackage.{NestedPackage}
use Rattle.wac_wit_syntax.specs.declared.tree.PackageName.{PackageName}

-- where the name of a package stands: in a file that belongs to it, or at the head of one that is written inside a file, which has
-- this index among those there
pub record PackagePlace : Type 0 where
  pub file : ℕ
  pub nested : Option ℕ

-- the name that stands there
pub data IsNamedAt (of : WitSources) : PackagePlace → PackageName → Type 0 where
  by_file : (i : ℕ) (f : FileSyntax) (n : PackageName) → slice_get of.files i ≡ Some f → f.document.package ≡ Some n → IsNamedAt of (record { file = i; nested = None }) n
  by_nested : (i : ℕ) (f : FileSyntax) (k : ℕ) (p : NestedPackage) → slice_get of.files i ≡ Some f → slice_get f.document.packages.items k ≡ Some p
      → IsNamedAt of (record { file = i; nested = Some k }) p.name

-- a file names another package
pub record NamesAnother (d : Document) (n : PackageName) : Type 0 where
  pub other : PackageName
  pub names : d.package ≡ Some other
  pub differs : package_id other ≡ package_id n → ⊥

-- a file names another package than a file beside it
pub record IsAnotherPackage (of : WitSources) (file : ℕ) (span : Span) : Type 0 where
  pub here : FileSyntax
  pub at : slice_get of.files file ≡ Some here
  pub name : PackageName
  pub names : here.document.package ≡ Some name
  pub stands : name.span ≡ span
  pub other : FileSyntax
  pub among : Contains of.files other
  pub beside : other.group ≡ here.group
  pub another : NamesAnother other.document name

-- an upper case letter stands in a name
abbrev pub HasUpperCaseIn : Ident → Type 0
HasUpperCaseIn n = IsTrue (list_any is_ascii_uppercase (string_bytes n.name))

-- the part of a package's name that stands at this place has an upper case letter
pub data HasUpperCase (n : PackageName) : Span → Type 0 where
  in_namespace : HasUpperCaseIn n.namespace → HasUpperCase n n.namespace.span
  in_name : HasUpperCaseIn n.name → HasUpperCase n n.name.span

-- the name of a package has an upper case letter
pub record IsUpperCase (of : WitSources) (file : ℕ) (span : Span) : Type 0 where
  pub place : PackagePlace
  pub in_file : place.file ≡ file
  pub name : PackageName
  pub named : IsNamedAt of place name
  pub has : HasUpperCase name span

-- two files of one group name their package together
pub record AreBeside (of : WitSources) (p q : PackagePlace) : Type 0 where
  pub file : FileSyntax
  pub at : slice_get of.files p.file ≡ Some file
  pub own : p.nested ≡ None
  pub other : FileSyntax
  pub other_at : slice_get of.files q.file ≡ Some other
  pub other_own : q.nested ≡ None
  pub one : file.group ≡ other.group

-- the package is there elsewhere too
pub record IsNamedElsewhere (of : WitSources) (place : PackagePlace) (id : PackageId) : Type 0 where
  pub other : PackagePlace
  pub elsewhere : other ≡ place → ⊥
  pub apart : AreBeside of place other → ⊥
  pub name : PackageName
  pub named : IsNamedAt of other name
  pub same : package_id name ≡ id

-- a package is there twice
pub record IsPackageTwice (of : WitSources) (file : ℕ) (span : Span) : Type 0 where
  pub place : PackagePlace
  pub in_file : place.file ≡ file
  pub name : PackageName
  pub named : IsNamedAt of place name
  pub stands : name.span ≡ span
  pub twice : IsNamedElsewhere of place (package_id name)

-- no file of a group names its package
abbrev pub IsGroupNameless : WitSources → ℕ → Type 0
IsGroupNameless of group = (f : FileSyntax) → Contains of.files f → f.group ≡ group → f.document.package ≡ None

-- no file beside it names the package that a file is of, which is said of its beginning
pub record IsNameless (of : WitSources) (file : ℕ) (span : Span) : Type 0 where
  pub here : FileSyntax
  pub at : slice_get of.files file ≡ Some here
  pub nobody : IsGroupNameless of here.group
  pub begins : span ≡ record { start = 0; end = 1 }
