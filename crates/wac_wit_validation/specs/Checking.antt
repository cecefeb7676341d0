-- What is known of the interfaces that were taken in, and of what is read.
use Rattle.std.specs.Prelude.{◌≡◌, ℕ, List, Contains, Some, slice_get}
use Rattle.wac_model.specs.Text.{Text}
use Rattle.wac_component.specs.Collection.{InterfaceContent}
use Rattle.wac_component.specs.Key.{Stands, interface_key}
use Rattle.wac_component.specs.Tree.{item_tree}
use Rattle.wac_component.specs.declared.items.ItemKind.{ItemKind}
use Rattle.wac_component.specs.declared.items.ItemKind.TheVariants.{Instance}
use Rattle.wac_wit_names.specs.Features.{has_feature}
use Rattle.wac_wit_validation_types.specs.Origins.{AreOwnersOf, AreUsesOf}
use Rattle.wac_wit_validation_types.specs.Placed.{HaveOwnIdentifiers, IsUnambiguous}
use Rattle.wac_wit_scopes.specs.Scopes.{HasScope, IsKnownScope, scope_syntax}
use Rattle.wac_wit_scopes.specs.WitSources.{WitSources, ScopeSyntax, IsScopeOf, IsEnabled, PathLeadsTo, ident_text, interface_identifier, package_id}
use Rattle.wac_wit_validation_types.specs.Denoted.{Setting, interface_setting}
use Rattle.wac_wit_validation_types.specs.Interfaces.{IsInterfaceTree}
use Rattle.wac_wit_validation_types.specs.OneMeaning.{AllGiveOnce, ExportsStandForOne, HaveOneMeaning}
use Rattle.wac_wit_validation_types.specs.Reading.{Renames}
use Rattle.wac_wit_validation_types.specs.declared.progress.ExportMarks.{ExportMarks}
use Rattle.wac_wit_validation_types.specs.declared.names.NamedTypes.{NamedTypes}
use Rattle.wac_wit_scopes.specs.declared.scopes.ScopeItems.{ScopeItems}
use Rattle.wac_wit_validation_names.specs.declared.places.FoundInterface.{FoundInterface}
use Rattle.wac_wit_validation.specs.declared.validator.Validator.{Validator}
use Rattle.wac_wit_syntax.specs.declared.tree.InterfaceDecl.{InterfaceDecl}
use Rattle.wac_wit_syntax.specs.declared.tree.InterfaceItem.{InterfaceItem}
use Rattle.wac_wit_syntax.specs.declared.tree.Path.{Path}
use Rattle.wac_wit_syntax.specs.declared.tree.TopItem.TheVariants as top
use Rattle.wac_wit_validation_types.specs.Exports.{AreExportsOf, HaveOrigins, IsRepresented, MarksExports, named_items}

-- this holds of the entry of an interface that was found
abbrev pub HoldsOfFound : Validator → FoundInterface → (InterfaceContent → Type 0) → Type 0
HoldsOfFound v f Holds = (content : InterfaceContent) → slice_get v.types.now.interfaces f.id.index ≡ Some content → Holds content

-- an interface that was found to be as it is written
pub record IsValidated (of : WitSources) (v : Validator) (f : FoundInterface) : Type 0 where
  pub scope : ScopeItems
  pub decl : InterfaceDecl
  pub at_scope : slice_get v.scopes.items f.place.scope ≡ Some scope
  pub at_item : slice_get scope.items.now f.place.item ≡ Some (top.Interface decl)
  pub there : IsEnabled of decl.gates
  pub stands : Stands v.types.now (interface_key f.id)
  pub identified : HoldsOfFound v f (λ content. content.id ≡ Some (interface_identifier (package_id scope.package.now) (ident_text decl.name)))
  pub exports : HoldsOfFound v f (λ content. AreExportsOf (interface_setting of (scope_syntax scope) decl.items.items) v.types.now content.exports)
  pub uses : HoldsOfFound v f (λ content. AreUsesOf v.types.now (interface_setting of (scope_syntax scope) decl.items.items) content.uses)
  pub origins : HoldsOfFound v f (λ content. HaveOrigins v.types.now (interface_setting of (scope_syntax scope) decl.items.items) content.uses)
  pub owners : HoldsOfFound v f (λ content. AreOwnersOf v.types.now content.uses content.exports)
  pub tree : IsInterfaceTree of (scope_syntax scope) decl.items.items (item_tree v.types.now (Instance f.id))

-- what is known is so of what is read
pub record Knows (of : WitSources) (v : Validator) : Type 0 where
  pub features : (n : Text) → of.is_on n ≡ has_feature v.features n
  pub unambiguous : IsUnambiguous of
  pub scopes : (i : ℕ) (w : ScopeItems) → slice_get v.scopes.items i ≡ Some w → IsKnownScope of w
  pub all_scopes : (w : ScopeSyntax) → IsScopeOf of w → HasScope v.scopes.items w
  pub found : (f : FoundInterface) → Contains v.found.items f → IsValidated of v f
  pub one_meaning : HaveOneMeaning of
  pub given_once : AllGiveOnce of
  pub one_item : ExportsStandForOne of
  pub identified : HaveOwnIdentifiers of

-- a path leads to an interface that was found
pub record LeadsToFound (v : Validator) (s : Setting) (path : Path) (f : FoundInterface) : Type 0 where
  pub scope : ScopeItems
  pub decl : InterfaceDecl
  pub among : Contains v.found.items f
  pub at_scope : slice_get v.scopes.items f.place.scope ≡ Some scope
  pub at_item : slice_get scope.items.now f.place.item ≡ Some (top.Interface decl)
  pub leads : PathLeadsTo s.sources s.scope path (scope_syntax scope) (ident_text decl.name)

-- the setting is that of a scope
pub record IsSettingAt (v : Validator) (scope : ℕ) (s : Setting) : Type 0 where
  pub knows : Knows s.sources v
  pub at : (w : ScopeItems) → slice_get v.scopes.items scope ≡ Some w → s.scope ≡ scope_syntax w

-- ---- facts of clauses

-- the items are those that an interface of a scope exports
abbrev pub AreExportsAt : Validator → ℕ → List InterfaceItem → List (Text × ItemKind) → Type 0
AreExportsAt v scope is es = (of : WitSources) → Knows of v → (w : ScopeItems) → slice_get v.scopes.items scope ≡ Some w → AreExportsOf (interface_setting of (scope_syntax w) is) v.types.now es

-- in each setting of a scope that has something, exports alone were marked
abbrev pub MarksAt : Validator → ℕ → (Setting → Type 0) → NamedTypes → ExportMarks → ExportMarks → Type 0
MarksAt v scope Has names old new = names.types.now ≡ v.types.now → (s : Setting) → IsSettingAt v scope s → Renames names s.renames → Has s → MarksExports s names old new

-- an item's names have exports, in each setting of known sources
abbrev pub RepresentsNames : Validator → NamedTypes → InterfaceItem → Type 0
RepresentsNames v names x = (s : Setting) → Knows s.sources v → Renames names s.renames → IsRepresented s (named_items names) x

-- in each setting of known sources that has something, exports alone were marked
abbrev pub MarksIn : Validator → (Setting → Type 0) → NamedTypes → ExportMarks → ExportMarks → Type 0
MarksIn v Has names old new = (s : Setting) → Knows s.sources v → Has s → MarksExports s names old new
