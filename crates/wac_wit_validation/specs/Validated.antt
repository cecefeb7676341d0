-- What the validator says of an entry: it is an interface of the packages that were read.
use Rattle.std.specs.Prelude.{◌≡◌, Contains, Option, Some, slice_get}
use Rattle.wac_model.specs.Text.{Text}
use Rattle.wac_component.specs.Collection.{Collection, InterfaceContent, WorldContent}
use Rattle.wac_component.specs.Id.{Id}
use Rattle.wac_component.specs.Key.{Stands, interface_key, world_key}
use Rattle.wac_component.specs.Tree.{item_tree}
use Rattle.wac_component.specs.declared.items.ItemKind.TheVariants.{Component, Instance}
use Rattle.wac_wit_syntax.specs.declared.tree.InterfaceDecl.{InterfaceDecl}
use Rattle.wac_wit_validation_types.specs.Denoted.{interface_setting}
use Rattle.wac_wit_validation_types.specs.Interfaces.{IsInterfaceTree}
use Rattle.wac_wit_validation_types.specs.OneWorld.{HasOneExtern}
use Rattle.wac_wit_validation_types.specs.Origins.{AreOwnersOf, AreUsesOf, AreWorldUsesOf}
use Rattle.wac_wit_validation_types.specs.Placed.{HasWorld, PlacedWorld, package_text}
use Rattle.wac_wit_validation_types.specs.Worlds.{IsWorldTree}
use Rattle.wac_wit_validation_names.specs.declared.places.FoundInterface.{FoundInterface}
use Rattle.wac_wit_validation.specs.declared.validator.FoundWorld.{FoundWorld}
use Rattle.wac_wit_validation.specs.declared.validator.Validator.{Validator}
use Rattle.wac_wit_scopes.specs.WitSources.{HasInterface, ScopeSyntax, WitSources, interface_identifier}

-- the entry is that of the interface of this name, in a package of this name and version: it has the interface's
-- identifier, its tree is what the interface's text denotes, and it says of its types where they come from
pub record IsInterfaceOf (of : WitSources) (c : Collection) («package» : Text) (version : Option Text) (name : Text) (id : Id) : Type 0 where
  pub scope : ScopeSyntax
  pub decl : InterfaceDecl
  pub has : HasInterface of scope name decl
  pub of_package : package_text scope.package ≡ «package»
  pub of_version : scope.package.version ≡ version
  pub stands : Stands c (interface_key id)
  pub identified : (content : InterfaceContent) → slice_get c.interfaces id.index ≡ Some content → content.id ≡ Some (interface_identifier scope.package name)
  pub tree : IsInterfaceTree of scope decl.items.items (item_tree c (Instance id))
  pub uses : (content : InterfaceContent) → slice_get c.interfaces id.index ≡ Some content → AreUsesOf c (interface_setting of scope decl.items.items) content.uses
  pub owners : (content : InterfaceContent) → slice_get c.interfaces id.index ≡ Some content → AreOwnersOf c content.uses content.exports

-- the world of this name, in a package of this name and version
pub record IsWorldNamed (of : WitSources) («package» : Text) (version : Option Text) (name : Text) (w : PlacedWorld) : Type 0 where
  pub has : HasWorld of w.scope name w.decl
  pub of_package : package_text w.scope.package ≡ «package»
  pub of_version : w.scope.package.version ≡ version

-- the entry is that of the world of this name, in a package of this name and version: it has the world's identifier, its tree
-- is what the world's text denotes, where each name stands for one item, and it says of the types that it imports where they
-- come from
pub record IsWorldOf (of : WitSources) (c : Collection) («package» : Text) (version : Option Text) (name : Text) (id : Id) : Type 0 where
  pub written : PlacedWorld
  pub is : IsWorldNamed of «package» version name written
  pub stands : Stands c (world_key id)
  pub identified : (content : WorldContent) → slice_get c.worlds id.index ≡ Some content → content.id ≡ Some (interface_identifier written.scope.package name)
  pub tree : IsWorldTree of written (item_tree c (Component id))
  pub one : HasOneExtern of written
  pub uses : (content : WorldContent) → slice_get c.worlds id.index ≡ Some content → AreWorldUsesOf of c written content.uses
  pub owners : (content : WorldContent) → slice_get c.worlds id.index ≡ Some content → AreOwnersOf c content.uses content.imports

-- the interface, or the world, of an entry was taken in
pub record HasFoundInterface (v : Validator) (id : Id) : Type 0 where
  pub found : FoundInterface
  pub among : Contains v.found.items found
  pub is : found.id ≡ id

pub record HasFoundWorld (v : Validator) (id : Id) : Type 0 where
  pub found : FoundWorld
  pub among : Contains v.worlds.items found
  pub is : found.id ≡ id

-- what was taken in stays
pub record KeepsFound (old new : Validator) : Type 0 where
  pub interfaces : (f : FoundInterface) → Contains old.found.items f → Contains new.found.items f
  pub worlds : (f : FoundWorld) → Contains old.worlds.items f → Contains new.worlds.items f
