-- Interfaces and worlds with what they stand in, and to which of them a path leads (WIT.md, "WIT Packages and `use`").
use Rattle.std.specs.Prelude.{◌≡◌, Contains, ◌++◌, codes}
use Rattle.wac_model.specs.Text.{Text}
use Rattle.wac_wit_syntax.specs.declared.tree.InterfaceDecl.{InterfaceDecl}
use Rattle.wac_wit_syntax.specs.declared.tree.Path.{Path}
use Rattle.wac_wit_syntax.specs.declared.tree.TopItem.TheVariants as top
use Rattle.wac_wit_syntax.specs.declared.tree.WorldDecl.{WorldDecl}
use Rattle.wac_wit_scopes.specs.WitSources.{WitSources, ScopeSyntax, HasInterface, IsEnabled, IsScopeOf, PathLeadsTo, ident_text, interface_identifier, PackageId}

-- an interface, with what it stands in
pub record PlacedInterface : Type 0 where
  pub scope : ScopeSyntax
  pub decl : InterfaceDecl

-- a world, with what it stands in
pub record PlacedWorld : Type 0 where
  pub scope : ScopeSyntax
  pub decl : WorldDecl

abbrev pub placed_identifier : PlacedInterface → Text
placed_identifier i = interface_identifier i.scope.package (ident_text i.decl.name)

-- a world of a package
pub record HasWorld (of : WitSources) (w : ScopeSyntax) (n : Text) (d : WorldDecl) : Type 0 where
  pub scope : IsScopeOf of w
  pub item : Contains w.items (top.World d)
  pub there : IsEnabled of d.gates
  pub named : ident_text d.name ≡ n

-- the interface at the end of a path
pub record LeadsToInterface (of : WitSources) (w : ScopeSyntax) (p : Path) (i : PlacedInterface) : Type 0 where
  pub name : Text
  pub leads : PathLeadsTo of w p i.scope name
  pub has : HasInterface of i.scope name i.decl

-- the world at the end of a path
pub record LeadsToWorld (of : WitSources) (w : ScopeSyntax) (p : Path) (v : PlacedWorld) : Type 0 where
  pub name : Text
  pub leads : PathLeadsTo of w p v.scope name
  pub has : HasWorld of v.scope name v.decl

-- a path leads to one interface at most, and to one world at most
pub record IsUnambiguous (of : WitSources) : Type 0 where
  pub interfaces : (w : ScopeSyntax) (p : Path) (i j : PlacedInterface) → IsScopeOf of w → LeadsToInterface of w p i → LeadsToInterface of w p j → i ≡ j
  pub worlds : (w : ScopeSyntax) (p : Path) (v x : PlacedWorld) → IsScopeOf of w → LeadsToWorld of w p v → LeadsToWorld of w p x → v ≡ x

-- no two interfaces have one identifier
abbrev pub HaveOwnIdentifiers : WitSources → Type 0
HaveOwnIdentifiers of = (i j : PlacedInterface) (n m : Text) → HasInterface of i.scope n i.decl → HasInterface of j.scope m j.decl → placed_identifier i ≡ placed_identifier j → i ≡ j

-- the name of a package without its version, as `wasi:http`
abbrev pub package_text : PackageId → Text
package_text p = p.namespace ++ codes ":" ++ p.name
