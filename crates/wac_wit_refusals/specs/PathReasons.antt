-- What is wrong with a path (WIT.md, "WIT Packages and `use`", "Worlds" and "Feature Gates").
use Rattle.std.specs.Prelude.{◌≡◌, ℕ, Contains, Some, None}
use Rattle.wac_wit_refusals_sites.specs.Paths.{IsItemEnabled, LeadsToItem, PathAt, SeeksMember, name_of_item}
use Rattle.wac_wit_refusals_sites.specs.declared.paths.Sought.{Sought}
use Rattle.wac_wit_refusals_sites.specs.declared.paths.Sought.TheVariants.{Interface, OtherName, World}
use Rattle.wac_wit_scopes.specs.WitSources.{IsNamedPackage, IsPackageOf, IsScopeOf, ScopeSyntax, WitSources, given_name, ident_text}
use Rattle.wac_wit_syntax.specs.declared.positions.Span.{Span}
use Rattle.wac_wit_syntax.specs.declared.tree.InterfaceDecl.{InterfaceDecl}
use Rattle.wac_wit_syntax.specs.declared.tree.PackageName.{PackageName}
use Rattle.wac_wit_syntax.specs.declared.tree.Path.{Path}
use Rattle.wac_wit_syntax.specs.declared.tree.TopItem.{TopItem}
use Rattle.wac_wit_syntax.specs.declared.tree.TopItem.TheVariants as top
use Rattle.wac_wit_syntax.specs.declared.tree.TopUse.{TopUse}
use Rattle.wac_wit_syntax.specs.declared.tree.WorldDecl.{WorldDecl}

-- a path names a package that isn't there
pub record IsUnknownPackage (of : WitSources) (file : ℕ) (span : Span) : Type 0 where
  pub place : PathAt of file
  pub named : PackageName
  pub says : place.path.package ≡ Some named
  pub is_at : named.span ≡ span
  pub none : (w : ScopeSyntax) → IsScopeOf of w → IsNamedPackage of named w.package → ⊥

-- a path names the package that it stands in
pub record IsOwnPackage (of : WitSources) (file : ℕ) (span : Span) : Type 0 where
  pub place : PathAt of file
  pub named : PackageName
  pub says : place.path.package ≡ Some named
  pub is_at : named.span ≡ span
  pub own : IsNamedPackage of named place.scope.package

-- no `use` outside of interfaces and worlds gives a path its name; the paths of such `use` lead directly
abbrev pub LeadsDirectly : ScopeSyntax → Sought → Path → Type 0
LeadsDirectly w OtherName path = Unit {0}
LeadsDirectly w _ path = (u : TopUse) → path.package ≡ None → Contains w.items (top.Use u) → given_name u.path.name u.alias ≡ ident_text path.name → ⊥

-- a path leads to nothing: its package is there, and has no interface or world of the name
pub record IsUnknownMember (of : WitSources) (file : ℕ) (span : Span) : Type 0 where
  pub place : PathAt of file
  pub is_at : place.path.name.span ≡ span
  pub directly : LeadsDirectly place.scope place.seeks place.path
  pub to : ScopeSyntax
  pub there : IsScopeOf of to
  pub package_of : IsPackageOf of place.scope place.path.package to.package
  pub none : (v : ScopeSyntax) (t : TopItem) → IsScopeOf of v → IsPackageOf of place.scope place.path.package v.package → Contains v.items t → name_of_item t ≡ Some (ident_text place.path.name) → ⊥

-- a path leads to a world, and asks for an interface
pub record IsNotInterface (of : WitSources) (file : ℕ) (span : Span) : Type 0 where
  pub place : PathAt of file
  pub is_at : place.path.name.span ≡ span
  pub seeks : place.seeks ≡ Interface
  pub to : ScopeSyntax
  pub world : WorldDecl
  pub leads : LeadsToItem of place.scope place.path to (top.World world)

-- a path leads to an interface, and asks for a world
pub record IsNotWorld (of : WitSources) (file : ℕ) (span : Span) : Type 0 where
  pub place : PathAt of file
  pub is_at : place.path.name.span ≡ span
  pub seeks : place.seeks ≡ World
  pub to : ScopeSyntax
  pub found : InterfaceDecl
  pub leads : LeadsToItem of place.scope place.path to (top.Interface found)

-- a path asks for an interface or a world that a feature hides
pub record IsHiddenMember (of : WitSources) (file : ℕ) (span : Span) : Type 0 where
  pub place : PathAt of file
  pub is_at : place.path.name.span ≡ span
  pub seeks : SeeksMember place.seeks
  pub to : ScopeSyntax
  pub item : TopItem
  pub leads : LeadsToItem of place.scope place.path to item
  pub hidden : IsItemEnabled of item → ⊥

-- a path asks for what a `use` outside of interfaces and worlds names, which is a world of a package that the `use` names
pub record IsForeignWorld (of : WitSources) (file : ℕ) (span : Span) : Type 0 where
  pub place : PathAt of file
  pub is_at : place.path.name.span ≡ span
  pub seeks : SeeksMember place.seeks
  pub plain : place.path.package ≡ None
  pub used : TopUse
  pub among : Contains place.scope.items (top.Use used)
  pub gives : given_name used.path.name used.alias ≡ ident_text place.path.name
  pub foreign : used.path.package ≡ None → ⊥
  pub to : ScopeSyntax
  pub world : WorldDecl
  pub leads : LeadsToItem of place.scope used.path to (top.World world)
