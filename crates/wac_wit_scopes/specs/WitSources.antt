-- WIT packages as their files' syntax trees, and where the paths in them lead (WIT.md, "Package Format" and
-- "WIT Packages and `use`").
use Rattle.std.specs.Prelude.{◌≡◌, ℕ, Bool, true, codes, List, [], ◌++◌, Contains, Option, Some, None, map, slice_get, string_bytes}
use Rattle.std.specs.List.{zip}
use Rattle.std.specs.Option.{option_map}
use Rattle.wac_model.specs.Text.{Text}
use Rattle.wac_wit_names.specs.Features.{has_feature}
use Rattle.wac_wit_names.specs.declared.features.Features.{Features}
use Rattle.wac_wit_names.specs.declared.sources.SourceFile.{SourceFile}
use Rattle.wac_wit_syntax.specs.declared.tree.Document.{Document}
use Rattle.wac_wit_syntax.specs.declared.tree.Gate.{Gate}
use Rattle.wac_wit_syntax.specs.declared.tree.Gates.{Gates}
use Rattle.wac_wit_syntax.specs.declared.tree.Ident.{Ident}
use Rattle.wac_wit_syntax.specs.declared.tree.InterfaceDecl.{InterfaceDecl}
use Rattle.wac_wit_syntax.specs.declared.tree.NestedPackage.{NestedPackage}
use Rattle.wac_wit_syntax.specs.declared.tree.PackageName.{PackageName}
use Rattle.wac_wit_syntax.specs.declared.tree.Path.{Path}
use Rattle.wac_wit_syntax.specs.declared.tree.TopItem.{TopItem}
use Rattle.wac_wit_syntax.specs.declared.tree.TopItem.TheVariants as top
use Rattle.wac_wit_syntax.specs.declared.tree.TopUse.{TopUse}

-- a file: which files are one package with it, and its tree
pub record FileSyntax : Type 0 where
  pub group : ℕ
  pub document : Document

-- what is read: files, and which features are on
pub record WitSources : Type 0 where
  pub files : List FileSyntax
  pub is_on : Text → Bool

-- files with their trees, which stand in the same order
abbrev pub sources_of : List SourceFile → List Document → Features → WitSources
sources_of files documents features = record { files = map (λ p. record { group = p.0.group; document = p.1 }) (zip files documents); is_on = has_feature features }

-- which package it is
pub record PackageId : Type 0 where
  pub namespace : Text
  pub name : Text
  pub version : Option Text

-- what shares the names that `use` gives outside of interfaces and worlds: the items of a file, or of a package
-- that is written inside one
pub record ScopeSyntax : Type 0 where
  pub «package» : PackageId
  pub items : List TopItem

abbrev pub ident_text : Ident → Text
ident_text id = string_bytes id.name

-- the name that something has, or gets (`as`)
abbrev pub given_name : Ident → Option Ident → Text
given_name name None = ident_text name
given_name name (Some alias) = ident_text alias

abbrev pub version_text : Option Gate → Option Text
version_text v = option_map (λ g. string_bytes g.text) v

abbrev pub package_id : PackageName → PackageId
package_id n = record { namespace = ident_text n.namespace; name = ident_text n.name; version = version_text n.version }

-- items in the package of a name
abbrev pub scope_in : PackageName → List TopItem → ScopeSyntax
scope_in n items = record { «package» = package_id n; items = items }

-- the identifier of an interface (explainer, "Import and Export Definitions", `interfacename`)
abbrev pub version_part : Option Text → Text
version_part None = []
version_part (Some version) = codes "@" ++ version

abbrev pub interface_identifier : PackageId → Text → Text
interface_identifier p n = p.namespace ++ codes ":" ++ p.name ++ codes "/" ++ n ++ version_part p.version

-- the two name one package, but for its version
pub record HaveOneName (p q : PackageId) : Type 0 where
  pub namespace : p.namespace ≡ q.namespace
  pub name : p.name ≡ q.name

-- a file is of the package that some file of its group names; a package inside of a file names itself
pub data IsScopeOf (of : WitSources) : ScopeSyntax → Type 0 where
  a_file : (f g : FileSyntax) (n : PackageName) → Contains of.files f → Contains of.files g → g.group ≡ f.group → g.document.package ≡ Some n → IsScopeOf of (scope_in n f.document.items.items)
  a_nested : (f : FileSyntax) (n : NestedPackage) → Contains of.files f → Contains f.document.packages.items n → IsScopeOf of (scope_in n.name n.items.items)

-- it is the scope of the file at an index, or of a package inside it
pub data IsScopeAt (of : WitSources) (file : ℕ) : ScopeSyntax → Type 0 where
  in_file : (f g : FileSyntax) (n : PackageName) → slice_get of.files file ≡ Some f → Contains of.files g → g.group ≡ f.group → g.document.package ≡ Some n
      → IsScopeAt of file (scope_in n f.document.items.items)
  in_nested : (f : FileSyntax) (n : NestedPackage) → slice_get of.files file ≡ Some f → Contains f.document.packages.items n → IsScopeAt of file (scope_in n.name n.items.items)

-- the group of files in which a package is: of a file that names it, or inside of which it is written
pub data IsInGroup (of : WitSources) (p : PackageId) (group : ℕ) : Type 0 where
  named_there : (f : FileSyntax) (n : PackageName) → Contains of.files f → f.group ≡ group → f.document.package ≡ Some n → package_id n ≡ p → IsInGroup of p group
  nested_there : (f : FileSyntax) (n : NestedPackage) → Contains of.files f → f.group ≡ group → Contains f.document.packages.items n → package_id n.name ≡ p → IsInGroup of p group

-- some file of a group names the package
pub record NamesGroup (of : WitSources) (group : ℕ) (n : PackageName) : Type 0 where
  pub file : FileSyntax
  pub among : Contains of.files file
  pub in_group : file.group ≡ group
  pub names : file.document.package ≡ Some n

-- no two files of a group name different packages
abbrev pub NameOnePackage : WitSources → Type 0
NameOnePackage of = (group : ℕ) (n m : PackageName) → NamesGroup of group n → NamesGroup of group m → package_id n ≡ package_id m

-- it is clear which package each file is: its group names one, and no other
pub record HaveClearPackages (of : WitSources) : Type 0 where
  pub named : (f : FileSyntax) → Contains of.files f → (n : PackageName) × NamesGroup of f.group n
  pub one : NameOnePackage of

-- an item is there, unless it asks for a feature that is off (WIT.md, "Feature Gates")
abbrev pub IsEnabled : WitSources → Gates → Type 0
IsEnabled of g = (f : Gate) → g.unstable ≡ Some f → of.is_on (string_bytes f.text) ≡ true

-- an interface of a package
pub record HasInterface (of : WitSources) (w : ScopeSyntax) (n : Text) (d : InterfaceDecl) : Type 0 where
  pub scope : IsScopeOf of w
  pub item : Contains w.items (top.Interface d)
  pub there : IsEnabled of d.gates
  pub named : ident_text d.name ≡ n

-- no two packages that are read have this name
abbrev pub IsOnlyVersion : WitSources → PackageId → Type 0
IsOnlyVersion of p = (w : ScopeSyntax) → IsScopeOf of w → HaveOneName w.package p → w.package ≡ p

-- the package that a path names; without a version the one that has none, or else the only one of that name
pub data IsNamedPackage (of : WitSources) (n : PackageName) : PackageId → Type 0 where
  exactly : IsNamedPackage of n (package_id n)
  alone : {p : PackageId} → n.version ≡ None → HaveOneName p (package_id n) → IsOnlyVersion of p → IsNamedPackage of n p

-- the package of a path: the one that it names, or the one that it stands in
abbrev pub IsPackageOf : WitSources → ScopeSyntax → Option PackageName → PackageId → Type 0
IsPackageOf of w None p = p ≡ w.package
IsPackageOf of w (Some n) p = IsNamedPackage of n p

-- a path leads to a name in a package, or to where a `use` outside of interfaces and worlds leads that gives
-- its name
pub data PathLeadsTo (of : WitSources) (w : ScopeSyntax) (path : Path) (v : ScopeSyntax) : Text → Type 0 where
  directly : IsPackageOf of w path.package v.package → PathLeadsTo of w path v (ident_text path.name)
  by_use : (u : TopUse) → path.package ≡ None → Contains w.items (top.Use u) → given_name u.path.name u.alias ≡ ident_text path.name
      → IsPackageOf of w u.path.package v.package → PathLeadsTo of w path v (ident_text u.path.name)
