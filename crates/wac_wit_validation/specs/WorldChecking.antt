-- What is known of worlds while their entries are compared with what is written.
use Rattle.std.specs.Prelude.{◌≡◌, ◌≢◌, ◌⊎◌, ℕ, List, [], ◌∷◌, Contains, Some, slice_get, length}
use Rattle.std.specs.Borrow.{Bor}
use Rattle.wac_model.specs.ItemTree.{ItemTree}
use Rattle.wac_model.specs.Text.{Text}
use Rattle.wac_model.specs.ValueTree.{FuncTree}
use Rattle.wac_component.specs.Collection.{Collection, WorldContent}
use Rattle.wac_component.specs.Content.{named, world_content}
use Rattle.wac_component.specs.Key.{Stands, world_key}
use Rattle.wac_component.specs.Id.{Id}
use Rattle.wac_component.specs.Tree.{externs, item_tree, world_externs}
use Rattle.wac_component.specs.declared.items.ItemKind.{ItemKind}
use Rattle.wac_component.specs.declared.items.ItemKind.TheVariants.{Component, Instance}
use Rattle.wac_component.specs.declared.worlds.ExternKind.{ExternKind}
use Rattle.wac_component.specs.declared.worlds.ExternKind.TheVariants.{Import, Export}
use Rattle.wac_wit_syntax.specs.declared.tree.Extern.{Extern}
use Rattle.wac_wit_syntax.specs.declared.tree.Extern.TheVariants as extern
use Rattle.wac_wit_syntax.specs.declared.tree.IncludeItem.{IncludeItem}
use Rattle.wac_wit_syntax.specs.declared.tree.InterfaceItem.TheVariants as inside
use Rattle.wac_wit_syntax.specs.declared.tree.Path.{Path}
use Rattle.wac_wit_syntax.specs.declared.tree.TopItem.TheVariants as top
use Rattle.wac_wit_syntax.specs.declared.tree.UseItem.{UseItem}
use Rattle.wac_wit_syntax.specs.declared.tree.WorldItem.{WorldItem}
use Rattle.wac_wit_syntax.specs.declared.tree.WorldItem.TheVariants as of_world
use Rattle.wac_wit_validation_types.specs.Exports.{HasItem, IsRepresented, named_items}
use Rattle.wac_wit_validation.specs.Checking.{IsValidated, Knows}
use Rattle.wac_wit_scopes.specs.Scopes.{scope_syntax}
use Rattle.wac_wit_validation_types.specs.Denoted.{Denoted, NamesType, Setting, renamed_by, uses_in}
use Rattle.wac_wit_validation_types.specs.Functions.{HasMethod}
use Rattle.wac_wit_syntax.specs.declared.tree.Rename.{Rename}
use Rattle.wac_wit_validation_types.specs.OneWorld.{HasOneExtern}
use Rattle.wac_wit_validation_types.specs.Origins.{AreOwnersOf, AreWorldUsesOf}
use Rattle.wac_wit_validation_types.specs.Placed.{LeadsToInterface, LeadsToWorld, PlacedInterface, PlacedWorld, placed_identifier}
use Rattle.wac_wit_validation_types.specs.Reading.{AreNamesBy, Renames, StandForTypes}
use Rattle.wac_wit_scopes.specs.WitSources.{IsEnabled, IsScopeOf, ScopeSyntax, WitSources, ident_text}
use Rattle.wac_wit_validation.specs.Validated.{KeepsFound}
use Rattle.wac_wit_validation_types.specs.Worlds.{BringsIn, ExportsIdentifier, HasExternInterface, HasExternOf, IsUsedByExport, IsWorldTree, SaysExtern, SaysInclude, UsesInterface, world_setting}
use Rattle.wac_wit_validation.specs.declared.marks.ExternMark.{ExternMark}
use Rattle.wac_wit_validation.specs.declared.marks.ExternMark.TheVariants.{Found, Unmarked, Written}
use Rattle.wac_wit_validation.specs.declared.marks.ExternMarks.{ExternMarks}
use Rattle.wac_wit_validation.specs.declared.externs.LedExtern.{LedExtern}
use Rattle.wac_wit_validation.specs.declared.externs.WorldSide.{WorldSide}
use Rattle.wac_wit_validation.specs.declared.marks.WorldMarks.{WorldMarks}
use Rattle.wac_wit_validation_names.specs.declared.layers.Layer.{Layer}
use Rattle.wac_wit_validation.specs.declared.validator.WorldText.{WorldText}
use Rattle.wac_wit_validation_types.specs.declared.names.NamedTypes.{NamedTypes}
use Rattle.wac_wit_scopes.specs.declared.scopes.ScopeItems.{ScopeItems}
use Rattle.wac_wit_validation_names.specs.declared.places.FoundInterface.{FoundInterface}
use Rattle.wac_wit_validation.specs.declared.validator.FoundWorld.{FoundWorld}
use Rattle.wac_wit_validation_names.specs.declared.places.ItemPlace.{ItemPlace}
use Rattle.wac_wit_validation.specs.declared.validator.Validator.{Validator}

-- ---- interfaces

-- the interface is written at this place
pub record IsPlacedAt (v : Validator) (place : ItemPlace) (i : PlacedInterface) : Type 0 where
  pub scope : ScopeItems
  pub at_scope : slice_get v.scopes.items place.scope ≡ Some scope
  pub at_item : slice_get scope.items.now place.item ≡ Some (top.Interface i.decl)
  pub is : i.scope ≡ scope_syntax scope

-- an interface that was taken in is this one
pub record IsFoundAs (of : WitSources) (v : Validator) (f : FoundInterface) (i : PlacedInterface) : Type 0 where
  pub valid : IsValidated of v f
  pub at : IsPlacedAt v f.place i

-- what is imported or exported at an index is this interface
pub record IsInterfaceAt (of : WitSources) (v : Validator) (es : List (Text × ItemKind)) (n : ℕ) (f : FoundInterface) (i : PlacedInterface) : Type 0 where
  pub found : IsFoundAs of v f i
  pub at : slice_get es n ≡ Some (placed_identifier i, Instance f.id)

-- ---- marks

abbrev pub IsMarkOf : WitSources → Validator → PlacedWorld → ExternKind → List (Text × ItemKind) → ℕ → ExternMark → Type 0
IsMarkOf of v w k es n Unmarked = Unit {0}
IsMarkOf of v w k es n Written = (e : Text × ItemKind) → slice_get es n ≡ Some e → HasExternOf of k w e.0 (item_tree v.types.now e.1)
IsMarkOf of v w k es n (Found f) = (i : PlacedInterface) × IsInterfaceAt of v es n f i × HasExternInterface of k w i

-- what is marked is imported or exported, as the text says
pub record AreMarksOf (of : WitSources) (v : Validator) (w : PlacedWorld) (k : ExternKind) (es : List (Text × ItemKind)) (m : ExternMarks) : Type 0 where
  pub even : length m.marks.items ≡ length es
  pub each : (n : ℕ) (x : ExternMark) → slice_get m.marks.items n ≡ Some x → IsMarkOf of v w k es n x

-- such marks stay so
abbrev pub KeepsExterns : WitSources → Validator → PlacedWorld → ExternKind → List (Text × ItemKind) → ExternMarks → ExternMarks → Type 0
KeepsExterns of v w k es old new = AreMarksOf of v w k es old → AreMarksOf of v w k es new

-- the interface is marked
pub record IsMarkedAs (v : Validator) (m : ExternMarks) (i : PlacedInterface) : Type 0 where
  pub place : ℕ
  pub mark : FoundInterface
  pub at : slice_get m.marks.items place ≡ Some (Found mark)
  pub is : IsPlacedAt v mark.place i

-- ---- what is imported and exported

-- items are those that a world imports or exports
pub record AreItemsOf (of : WitSources) (v : Validator) (w : PlacedWorld) (k : ExternKind) (es : List (Text × ItemKind)) : Type 0 where
  pub each : (e : Text × ItemKind) → Contains es e → HasExternOf of k w e.0 (item_tree v.types.now e.1)
  pub all : (n : Text) (x : ItemTree) → HasExternOf of k w n x → HasItem es n

-- each interface that a world imports, or exports, is there
abbrev pub AreInterfacesThere : WitSources → ExternKind → PlacedWorld → List (Text × ItemKind) → Type 0
AreInterfacesThere of k w es = (i : PlacedInterface) → HasExternInterface of k w i → HasItem es (placed_identifier i)

-- imports, or exports, are those of a world, and its interfaces are marked
pub record AreSideOf (of : WitSources) (v : Validator) (w : PlacedWorld) (k : ExternKind) (es : List (Text × ItemKind)) (m : ExternMarks) : Type 0 where
  pub items : AreItemsOf of v w k es
  pub marks : AreMarksOf of v w k es m
  pub interfaces : AreInterfacesThere of k w es

-- where a world is written, and what is said of it there
pub record IsWorldAt (of : WitSources) (v : Validator) (place : ItemPlace) (w : PlacedWorld) : Type 0 where
  pub scope : ScopeItems
  pub at_scope : slice_get v.scopes.items place.scope ≡ Some scope
  pub at_item : slice_get scope.items.now place.item ≡ Some (top.World w.decl)
  pub is : w.scope ≡ scope_syntax scope
  pub there : IsEnabled of w.decl.gates

-- ---- worlds that come into one

-- the `use` is there, and names a type
abbrev pub UsesTypes : WitSources → UseItem → Type 0
UsesTypes of u = IsEnabled of u.gates × ((r : Rename) × Contains u.names.items r)

-- what is imported or exported has a name of its own
abbrev pub HasOwnName : Extern → Type 0
HasOwnName (extern.Path p) = ⊥
HasOwnName x = Unit {0}

-- an item is there, and gives something a name of its own
abbrev pub GivesNames : WitSources → WorldItem → Type 0
GivesNames of (of_world.Use u) = UsesTypes of u
GivesNames of (of_world.Type t) = IsEnabled of t.gates
GivesNames of (of_world.Include i) = ⊥
GivesNames of (of_world.Import e) = IsEnabled of e.gates × HasOwnName e.what
GivesNames of (of_world.Export e) = IsEnabled of e.gates × HasOwnName e.what

-- these are the items of a world that give names
pub record AreNamingItems (of : WitSources) (is : List WorldItem) (bs : List (Bor WorldItem)) : Type 0 where
  pub among : (b : Bor WorldItem) → Contains bs b → Contains is b.now
  pub all : (t : WorldItem) → Contains is t → GivesNames of t → (b : Bor WorldItem) × Contains bs b × (b.now ≡ t)

-- the layer is of the world, as it comes in under these names
pub record IsLayerOf (of : WitSources) (v : Validator) (l : Layer) (rss : List (List Rename)) (x : PlacedWorld) : Type 0 where
  pub at : IsWorldAt of v l.place x
  pub items : AreNamingItems of x.decl.items.items l.items.items
  pub names : AreNamesBy l.names rss

-- a world comes in, and the layer is of it
pub record IsLayerIn (of : WitSources) (v : Validator) (w : PlacedWorld) (l : Layer) : Type 0 where
  pub renames : List (List Rename)
  pub inside : PlacedWorld
  pub brings : BringsIn of w renames inside
  pub is : IsLayerOf of v l renames inside

-- each layer is of a world that comes in, and each world that does, and gives names, has one
pub record AreLayersOf (of : WitSources) (v : Validator) (w : PlacedWorld) (ls : List Layer) : Type 0 where
  pub each : (l : Layer) → Contains ls l → IsLayerIn of v w l
  pub all : (rss : List (List Rename)) (x : PlacedWorld) (t : WorldItem) → BringsIn of w rss x → Contains x.decl.items.items t → GivesNames of t → (l : Layer) × Contains ls l × IsLayerOf of v l rss x

-- ---- worlds that were looked at

-- both sides of an entry are those of a world
pub record AreWorldSides (of : WitSources) (v : Validator) (w : PlacedWorld) (e : WorldContent) (m : WorldMarks) : Type 0 where
  pub imports : AreSideOf of v w Import e.imports m.imports
  pub exports : AreSideOf of v w Export e.exports m.exports

-- a world that was found to be as it is written
pub record IsValidatedWorld (of : WitSources) (v : Validator) (f : FoundWorld) : Type 0 where
  pub written : PlacedWorld
  pub at : IsWorldAt of v f.place written
  pub stands : Stands v.types.now (world_key f.id)
  pub sides : (content : WorldContent) → slice_get v.types.now.worlds f.id.index ≡ Some content → AreWorldSides of v written content f.marks
  pub layers : AreLayersOf of v written f.layers.items
  pub uses : (content : WorldContent) → slice_get v.types.now.worlds f.id.index ≡ Some content → AreWorldUsesOf of v.types.now written content.uses
  pub owners : (content : WorldContent) → slice_get v.types.now.worlds f.id.index ≡ Some content → AreOwnersOf v.types.now content.uses content.imports
  pub one : HasOneExtern of written
  pub tree : IsWorldTree of written (item_tree v.types.now (Component f.id))

-- what is known of worlds, and of interfaces, is so of what is read
pub record KnowsWorlds (of : WitSources) (v : Validator) : Type 0 where
  pub interfaces : Knows of v
  pub worlds : (f : FoundWorld) → Contains v.worlds.items f → IsValidatedWorld of v f

-- ---- where something stands

-- the scope of the packages that is looked at
pub record IsIndexedScope (v : Validator) (scope : ℕ) (of : WitSources) (w : ScopeSyntax) : Type 0 where
  pub knows : KnowsWorlds of v
  pub items : ScopeItems
  pub at : slice_get v.scopes.items scope ≡ Some items
  pub is : w ≡ scope_syntax items

-- a path leads to the interface at an index
pub record LeadsToExtern (of : WitSources) (v : Validator) (w : ScopeSyntax) (p : Path) (es : List (Text × ItemKind)) (l : LedExtern) : Type 0 where
  pub interface : PlacedInterface
  pub is : IsInterfaceAt of v es l.index l.found interface
  pub leads : LeadsToInterface of w p interface
  pub scope : IsScopeOf of w

-- the same, wherever the scope is looked at
abbrev pub LeadsToExternAt : Validator → ℕ → Path → List (Text × ItemKind) → LedExtern → Type 0
LeadsToExternAt v scope p es l = (of : WitSources) (w : ScopeSyntax) → IsIndexedScope v scope of w → LeadsToExtern of v w p es l

-- ---- what a world says

abbrev pub side_items : WorldSide → List (Text × ItemKind)
side_items side = named (λ k. k) side.externs.now.entries

-- a world comes in, its scope is looked at, and the names stand for what they do there
pub record ComesInAt (v : Validator) (scope : ℕ) (names : NamedTypes) (of : WitSources) (w : PlacedWorld) (rss : List (List Rename)) (x : PlacedWorld) : Type 0 where
  pub brings : BringsIn of w rss x
  pub at : IsIndexedScope v scope of x.scope
  pub new_names : Renames names rss
  pub stand : StandForTypes names (world_setting of rss x)

-- in each world into which one comes that has something, marks of a side stay so
abbrev pub KeepsSide : Validator → ℕ → WorldSide → (WitSources → PlacedWorld → Type 0) → ExternMarks → ExternMarks → Type 0
KeepsSide v scope side Has old new = side.names.types.now ≡ v.types.now → (of : WitSources) (w x : PlacedWorld) (rss : List (List Rename)) → ComesInAt v scope side.names of w rss x → Has of x
    → AreMarksOf of v w side.kind (side_items side) old → AreMarksOf of v w side.kind (side_items side) new

-- in each world at a scope that has something, marks stay so
abbrev pub KeepsPaths : Validator → ℕ → ExternKind → List (Text × ItemKind) → (WitSources → PlacedWorld → Type 0) → ExternMarks → ExternMarks → Type 0
KeepsPaths v scope k es Has old new = (of : WitSources) (w : PlacedWorld) → IsIndexedScope v scope of w.scope → Has of w → AreMarksOf of v w k es old → AreMarksOf of v w k es new

-- what is imported, or exported, under a name of its own is there
abbrev pub IsNamedThere : List (List Rename) → List (Text × ItemKind) → Extern → Type 0
IsNamedThere rss es (extern.Func id signature) = HasItem es (renamed_by rss (ident_text id))
IsNamedThere rss es (extern.Inline id items) = HasItem es (renamed_by rss (ident_text id))
IsNamedThere rss es x = Unit {0}

-- the interface that is imported, or exported, is there
abbrev pub IsPathThere : WitSources → ScopeSyntax → List (Text × ItemKind) → Extern → Type 0
IsPathThere of w es (extern.Path p) = (i : PlacedInterface) → LeadsToInterface of w p i → HasItem es (placed_identifier i)
IsPathThere of w es x = Unit {0}

-- where the items of a world have this one, each layer stays of a world that comes in
abbrev pub AddsLayersIn : Validator → ℕ → WorldItem → List Layer → List Layer → Type 0
AddsLayersIn v scope t old new = (of : WitSources) (w : PlacedWorld) → IsIndexedScope v scope of w.scope → Contains w.decl.items.items t
    → ((l : Layer) → Contains old l → IsLayerIn of v w l) → (l : Layer) → Contains new l → IsLayerIn of v w l

-- each world that comes in by the item, and gives names, has a layer
abbrev pub CoversInside : Validator → ℕ → IncludeItem → List Layer → Type 0
CoversInside v scope i ls = (of : WitSources) (w : ScopeSyntax) → IsIndexedScope v scope of w → IsEnabled of i.gates → (u : PlacedWorld) → LeadsToWorld of w i.path u
    → (rss : List (List Rename)) (x : PlacedWorld) (t : WorldItem) → BringsIn of u rss x → Contains x.decl.items.items t → GivesNames of t
    → (l : Layer) × Contains ls l × IsLayerOf of v l (i.renames.items ∷ rss) x

-- what a world that comes in says under names of its own has items under the new ones
pub record HasNamed (of : WitSources) (rss : List (List Rename)) (x : PlacedWorld) (e : WorldContent) : Type 0 where
  pub imports : (y : Extern) → SaysExtern of x Import y → IsNamedThere rss e.imports y
  pub exports : (y : Extern) → SaysExtern of x Export y → IsNamedThere rss e.exports y
  pub types : (n : Text) (m : Denoted) → NamesType (world_setting of rss x) n m → HasItem e.imports (renamed_by rss n)
  pub methods : (n : Text) (g : FuncTree) → HasMethod (world_setting of rss x) n g → HasItem e.imports n

-- ---- what a world needs

-- each interface that items use, where they stand, is marked
abbrev pub MarksUses : Validator → ℕ → List UseItem → ExternMarks → Type 0
MarksUses v scope us m = (of : WitSources) (w : ScopeSyntax) → IsIndexedScope v scope of w → (i : PlacedInterface) → UsesInterface of w us i → IsMarkedAs v m i

-- what this interface uses is imported
abbrev pub ImportsUsed : WitSources → PlacedWorld → ScopeSyntax → List UseItem → Type 0
ImportsUsed of w v us = (i : PlacedInterface) → UsesInterface of v us i → HasExternInterface of Import w i

-- in a scope of which a world imports what these items use, marks of imports stay so
abbrev pub KeepsUses : Validator → ℕ → List UseItem → List (Text × ItemKind) → ExternMarks → ExternMarks → Type 0
KeepsUses v scope us es old new = (of : WitSources) (w : PlacedWorld) (x : ScopeSyntax) → IsIndexedScope v scope of x → ImportsUsed of w x us → KeepsExterns of v w Import es old new

-- the same of what an interface uses, if the world imports it
abbrev pub KeepsUsesOf : Validator → FoundInterface → List (Text × ItemKind) → ExternMarks → ExternMarks → Type 0
KeepsUsesOf v f es old new = (of : WitSources) (w : PlacedWorld) (i : PlacedInterface) → KnowsWorlds of v → IsPlacedAt v f.place i
    → HasExternInterface of Import w i → KeepsExterns of v w Import es old new

-- what an interface uses is marked
abbrev pub MarksUsesOf : Validator → FoundInterface → ExternMarks → Type 0
MarksUsesOf v f m = (of : WitSources) (i j : PlacedInterface) → KnowsWorlds of v → IsPlacedAt v f.place i → UsesInterface of i.scope (uses_in i.decl.items.items) j → IsMarkedAs v m j

-- what marked interfaces use is marked
abbrev pub IsClosed : WitSources → Validator → ExternMarks → Type 0
IsClosed of v m = (i j : PlacedInterface) → IsMarkedAs v m i → UsesInterface of i.scope (uses_in i.decl.items.items) j → IsMarkedAs v m j

-- an interface that is used by an export is marked among the imports, or exported
abbrev pub IsImportedOrExported : WitSources → Validator → PlacedWorld → ExternMarks → PlacedInterface → Type 0
IsImportedOrExported of v w m i = IsMarkedAs v m i ⊎ ExportsIdentifier of w (placed_identifier i)

-- marks of imports stay so where what these uses name is used by an export, and all exported interfaces are there
abbrev pub KeepsUnexported : Validator → ℕ → WorldContent → List UseItem → ExternMarks → ExternMarks → Type 0
KeepsUnexported v scope e us old new = (of : WitSources) (w : PlacedWorld) (x : ScopeSyntax) → IsIndexedScope v scope of x → AreInterfacesThere of Export w e.exports
    → ((i : PlacedInterface) → UsesInterface of x us i → IsUsedByExport of w i) → AreMarksOf of v w Import e.imports old → AreMarksOf of v w Import e.imports new

-- the same of an item of the world
abbrev pub KeepsNeeds : Validator → ℕ → WorldContent → WorldItem → ExternMarks → ExternMarks → Type 0
KeepsNeeds v scope e item old new = (of : WitSources) (w : PlacedWorld) → IsIndexedScope v scope of w.scope → AreInterfacesThere of Export w e.exports → Contains w.decl.items.items item
    → AreMarksOf of v w Import e.imports old → AreMarksOf of v w Import e.imports new

-- what these uses name is imported, or exported
abbrev pub UsesAreThere : Validator → ℕ → WorldContent → List UseItem → WorldMarks → Type 0
UsesAreThere v scope e us m = (of : WitSources) (w : PlacedWorld) (x : ScopeSyntax) → IsIndexedScope v scope of x → AreMarksOf of v w Export e.exports m.exports
    → (i : PlacedInterface) → UsesInterface of x us i → IsImportedOrExported of v w m.imports i

-- what an import, or an export, of the world needs is there
abbrev pub ImportNeeds : WitSources → Validator → PlacedWorld → WorldMarks → Extern → Type 0
ImportNeeds of v w m (extern.Path p) = (i : PlacedInterface) → LeadsToInterface of w.scope p i → IsMarkedAs v m.imports i
ImportNeeds of v w m (extern.Inline id is) = (i : PlacedInterface) → UsesInterface of w.scope (uses_in is.items) i → IsMarkedAs v m.imports i
ImportNeeds of v w m x = Unit {0}

abbrev pub ExportNeeds : WitSources → Validator → PlacedWorld → WorldMarks → Extern → Type 0
ExportNeeds of v w m (extern.Path p) = (x i : PlacedInterface) → LeadsToInterface of w.scope p x → UsesInterface of x.scope (uses_in x.decl.items.items) i → IsImportedOrExported of v w m.imports i
ExportNeeds of v w m (extern.Inline id is) = (i : PlacedInterface) → UsesInterface of w.scope (uses_in is.items) i → IsImportedOrExported of v w m.imports i
ExportNeeds of v w m x = Unit {0}

-- what an item of the world needs is there
abbrev pub ItemNeeds : WitSources → Validator → PlacedWorld → WorldMarks → WorldItem → Type 0
ItemNeeds of v w m (of_world.Use u) = (i : PlacedInterface) → UsesInterface of w.scope (u ∷ []) i → IsMarkedAs v m.imports i
ItemNeeds of v w m (of_world.Import e) = IsEnabled of e.gates → ImportNeeds of v w m e.what
ItemNeeds of v w m (of_world.Export e) = IsEnabled of e.gates → ExportNeeds of v w m e.what
ItemNeeds of v w m x = Unit {0}

abbrev pub HasNeeds : Validator → ℕ → WorldContent → WorldItem → WorldMarks → Type 0
HasNeeds v scope e item m = (of : WitSources) (w : PlacedWorld) → IsIndexedScope v scope of w.scope → AreMarksOf of v w Export e.exports m.exports → ItemNeeds of v w m item

-- ---- whole worlds

-- where a world is written
pub record IsTextAt (v : Validator) (text : WorldText) (of : WitSources) (w : PlacedWorld) : Type 0 where
  pub at : IsIndexedScope v text.place.scope of w.scope
  pub written : IsWorldAt of v text.place w
  pub decl : w.decl ≡ text.decl.now

abbrev pub text_content : WorldText → WorldContent
text_content text = world_content text.entry.now

-- marks of both sides
pub record AreWorldMarksOf (of : WitSources) (v : Validator) (w : PlacedWorld) (e : WorldContent) (m : WorldMarks) : Type 0 where
  pub imports : AreMarksOf of v w Import e.imports m.imports
  pub exports : AreMarksOf of v w Export e.exports m.exports

-- the interfaces that a world has are there
pub record HasInterfaces (of : WitSources) (x : PlacedWorld) (e : WorldContent) : Type 0 where
  pub imports : AreInterfacesThere of Import x e.imports
  pub exports : AreInterfacesThere of Export x e.exports

-- those that a world has that an item includes are
abbrev pub HasInterfacesOf : WitSources → ScopeSyntax → WorldContent → WorldItem → Type 0
HasInterfacesOf of w e (of_world.Include i) = IsEnabled of i.gates → (x : PlacedWorld) → LeadsToWorld of w i.path x → HasInterfaces of x e
HasInterfacesOf of w e x = Unit {0}

-- those that the worlds have that are included are
abbrev pub HasIncluded : WitSources → PlacedWorld → WorldContent → Type 0
HasIncluded of w e = (x : PlacedWorld) (i : IncludeItem) → SaysInclude of w x i → HasInterfaces of x e

abbrev pub KeepsBoth : WitSources → Validator → PlacedWorld → WorldContent → WorldMarks → WorldMarks → Type 0
KeepsBoth of v w e old new = AreWorldMarksOf of v w e old → AreWorldMarksOf of v w e new

-- the entry of a world stands, and its tree is that of its content
pub record IsEntryOf (c : Collection) (id : Id) (content : WorldContent) : Type 0 where
  pub stands : Stands c (world_key id)
  pub at : slice_get c.worlds id.index ≡ Some content
  pub externs : externs c (world_key id) ≡ world_externs (item_tree c) content

-- the collection and the scopes stay, and what was taken in and is known
pub record StaysAs (old new : Validator) : Type 0 where
  pub found : KeepsFound old new
  pub types : new.types.now ≡ old.types.now
  pub scopes : new.scopes.items ≡ old.scopes.items
  pub knows : (of : WitSources) → KnowsWorlds of old → KnowsWorlds of new

-- what has to be known before imports are looked at
pub record IsReadyFor (of : WitSources) (v : Validator) (w : PlacedWorld) (e : WorldContent) (m : WorldMarks) : Type 0 where
  pub named : (rss : List (List Rename)) (x : PlacedWorld) → BringsIn of w rss x → HasNamed of rss x e
  pub included : HasIncluded of w e
  pub imports : AreMarksOf of v w Import e.imports m.imports
  pub exports : AreSideOf of v w Export e.exports m.exports

-- what the world needs is there, all is marked, and what marked interfaces use is marked
pub record HasAllNeeds (of : WitSources) (v : Validator) (w : PlacedWorld) (m : WorldMarks) : Type 0 where
  pub items : (x : WorldItem) → Contains w.decl.items.items x → ItemNeeds of v w m x
  pub closed : IsClosed of v m.imports
  pub all : (n : ℕ) (x : ExternMark) → slice_get m.imports.marks.items n ≡ Some x → x ≢ Unmarked

-- the types of a world are the setting's
abbrev pub OffersItem : Setting → WorldItem → Type 0
OffersItem s (of_world.Use u) = Contains s.uses u
OffersItem s (of_world.Type t) = Contains s.types t
OffersItem s x = Unit {0}

-- each name of a type of an item has an export
abbrev pub IsItemRepresented : Setting → List (Text × ItemKind) → WorldItem → Type 0
IsItemRepresented s es (of_world.Use u) = IsRepresented s es (inside.Use u)
IsItemRepresented s es (of_world.Type t) = IsRepresented s es (inside.Type t)
IsItemRepresented s es x = Unit {0}

-- the same, in each setting of known sources
abbrev pub RepresentsItem : Validator → NamedTypes → WorldItem → Type 0
RepresentsItem v names x = (s : Setting) → Knows s.sources v → Renames names s.renames → IsItemRepresented s (named_items names) x
