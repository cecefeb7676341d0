-- What clauses say of worlds while their entries are compared with what is written.
use Rattle.std.specs.Prelude.{◌≡◌, ℕ, List, Contains}
use Rattle.wac_model.specs.Text.{Text}
use Rattle.wac_component.specs.Collection.{WorldContent}
use Rattle.wac_component.specs.Tree.{item_tree}
use Rattle.wac_component.specs.declared.items.ItemKind.{ItemKind}
use Rattle.wac_component.specs.declared.worlds.ExternKind.{ExternKind}
use Rattle.wac_component.specs.declared.worlds.ExternKind.TheVariants.{Import, Export}
use Rattle.wac_wit_syntax.specs.declared.tree.Extern.TheVariants as extern
use Rattle.wac_wit_syntax.specs.declared.tree.ExternItem.{ExternItem}
use Rattle.wac_wit_syntax.specs.declared.tree.IncludeItem.{IncludeItem}
use Rattle.wac_wit_syntax.specs.declared.tree.Path.{Path}
use Rattle.wac_wit_syntax.specs.declared.tree.WorldItem.{WorldItem}
use Rattle.wac_wit_validation_types.specs.Exports.{AreExportsOf, HasItem, named_items}
use Rattle.wac_wit_validation.specs.Checking.{Knows}
use Rattle.wac_wit_syntax.specs.declared.tree.Rename.{Rename}
use Rattle.wac_wit_validation_types.specs.Placed.{LeadsToInterface, LeadsToWorld, PlacedInterface, PlacedWorld, placed_identifier}
use Rattle.wac_wit_validation_types.specs.Reading.{Renames, imported_name}
use Rattle.wac_wit_scopes.specs.WitSources.{IsEnabled, ScopeSyntax, WitSources}
use Rattle.wac_wit_validation_types.specs.Worlds.{BringsIn, HasExternInterface, HasExternOf, SaysExtern, SaysInclude, extern_item, world_setting}
use Rattle.wac_wit_validation.specs.declared.marks.ExternMarks.{ExternMarks}
use Rattle.wac_wit_validation.specs.declared.externs.WorldSide.{WorldSide}
use Rattle.wac_wit_validation.specs.declared.marks.WorldMarks.{WorldMarks}
use Rattle.wac_wit_validation_names.specs.declared.layers.Layer.{Layer}
use Rattle.wac_wit_validation.specs.declared.validator.WorldText.{WorldText}
use Rattle.wac_wit_validation_types.specs.declared.names.NamedTypes.{NamedTypes}
use Rattle.wac_wit_validation_names.specs.declared.places.FoundInterface.{FoundInterface}
use Rattle.wac_wit_validation.specs.declared.validator.FoundWorld.{FoundWorld}
use Rattle.wac_wit_validation_names.specs.declared.places.ItemPlace.{ItemPlace}
use Rattle.wac_wit_validation.specs.declared.validator.Validator.{Validator}
use Rattle.wac_wit_validation.specs.WorldChecking.{AreInterfacesThere, AreLayersOf, AreMarksOf, AreSideOf, AreWorldSides, ExportNeeds, HasAllNeeds, HasInterfacesOf, HasNamed, IsIndexedScope}
use Rattle.wac_wit_validation.specs.WorldChecking.{IsLayerIn, IsLayerOf, IsMarkedAs, IsNamedThere, IsPathThere, IsPlacedAt, IsReadyFor, IsTextAt, IsValidatedWorld, IsWorldAt, KeepsBoth}
use Rattle.wac_wit_validation.specs.WorldChecking.{KeepsExterns, KeepsPaths, KnowsWorlds, side_items, text_content}

-- what an item says under a name of its own is there
abbrev pub CoversExtern : Validator → WorldSide → ExternItem → Type 0
CoversExtern v side e = (of : WitSources) (rss : List (List Rename)) → Knows of v → Renames side.names rss → IsEnabled of e.gates → IsNamedThere rss (side_items side) e.what

abbrev pub CoversItem : Validator → WorldSide → WorldItem → Type 0
CoversItem v side item = (of : WitSources) (rss : List (List Rename)) → Knows of v → Renames side.names rss → (e : ExternItem)
    → item ≡ extern_item side.kind e → IsEnabled of e.gates → IsNamedThere rss (side_items side) e.what

-- the interface that an item says is there
abbrev pub CoversPath : Validator → ℕ → List (Text × ItemKind) → ExternItem → Type 0
CoversPath v scope es e = (of : WitSources) (w : ScopeSyntax) → IsIndexedScope v scope of w → IsEnabled of e.gates → IsPathThere of w es e.what

-- marks of either side stay so in a world that has the item there
abbrev pub KeepsSaidPath : Validator → ℕ → List (Text × ItemKind) → ExternItem → ExternMarks → ExternMarks → Type 0
KeepsSaidPath v scope es e old new = (k : ExternKind) → KeepsPaths v scope k es (λ of w. Contains w.decl.items.items (extern_item k e)) old new

-- and in one that says the path there
abbrev pub KeepsPath : Validator → ℕ → List (Text × ItemKind) → Path → ExternMarks → ExternMarks → Type 0
KeepsPath v scope es p old new = (k : ExternKind) → KeepsPaths v scope k es (λ of w. SaysExtern of w k (extern.Path p)) old new

-- the interface that a path leads to is there
abbrev pub HasPath : Validator → ℕ → List (Text × ItemKind) → Path → Type 0
HasPath v scope es p = (of : WitSources) (w : ScopeSyntax) → IsIndexedScope v scope of w → IsPathThere of w es (extern.Path p)

-- each interface that an item says on this side is there, and each that items say
abbrev pub CoversPathItem : Validator → ℕ → ExternKind → List (Text × ItemKind) → WorldItem → Type 0
CoversPathItem v scope k es item = (of : WitSources) (w : ScopeSyntax) → IsIndexedScope v scope of w → (e : ExternItem) → item ≡ extern_item k e → IsEnabled of e.gates → IsPathThere of w es e.what

abbrev pub CoversPaths : Validator → ℕ → ExternKind → List (Text × ItemKind) → List WorldItem → Type 0
CoversPaths v scope k es is = (of : WitSources) (w : ScopeSyntax) → IsIndexedScope v scope of w → (e : ExternItem) → Contains is (extern_item k e) → IsEnabled of e.gates → IsPathThere of w es e.what

-- marks of imports stay so
abbrev pub KeepsImportMarks : Validator → List (Text × ItemKind) → ExternMarks → ExternMarks → Type 0
KeepsImportMarks v es old new = (of : WitSources) (w : PlacedWorld) → KnowsWorlds of v → AreMarksOf of v w Import es old → AreMarksOf of v w Import es new

-- the interface that a path leads to is marked
abbrev pub MarksPath : Validator → ℕ → Path → ExternMarks → Type 0
MarksPath v scope path m = (of : WitSources) (w : ScopeSyntax) → IsIndexedScope v scope of w → (i : PlacedInterface) → LeadsToInterface of w path i → IsMarkedAs v m i

-- marks of both sides stay so in a world that has these items, or this one
abbrev pub KeepsIncluded : Validator → ℕ → WorldContent → List WorldItem → WorldMarks → WorldMarks → Type 0
KeepsIncluded v scope e items old new = (of : WitSources) (w : PlacedWorld) → IsIndexedScope v scope of w.scope → w.decl.items.items ≡ items → KeepsBoth of v w e old new

abbrev pub KeepsItem : Validator → ℕ → WorldContent → WorldItem → WorldMarks → WorldMarks → Type 0
KeepsItem v scope e item old new = (of : WitSources) (w : PlacedWorld) → IsIndexedScope v scope of w.scope → Contains w.decl.items.items item → KeepsBoth of v w e old new

abbrev pub CoversIncluded : Validator → ℕ → WorldContent → WorldItem → Type 0
CoversIncluded v scope e item = (of : WitSources) (w : ScopeSyntax) → IsIndexedScope v scope of w → HasInterfacesOf of w e item

-- a path leads to the world at a place
abbrev pub LeadsToPlace : Validator → ℕ → Path → ItemPlace → Type 0
LeadsToPlace v scope path place = (of : WitSources) (w : ScopeSyntax) → IsIndexedScope v scope of w → (x : PlacedWorld) → IsWorldAt of v place x → LeadsToWorld of w path x

-- marks stay so in a world that includes another one
abbrev pub KeepsAllOf : Validator → FoundWorld → WorldContent → WorldMarks → WorldMarks → Type 0
KeepsAllOf v f e old new = (of : WitSources) (w : PlacedWorld) (valid : IsValidatedWorld of v f) (i : IncludeItem) → KnowsWorlds of v → SaysInclude of w valid.written i → KeepsBoth of v w e old new

-- the interface of a name, if the world has it
abbrev pub KeepsInterfaceOf : Validator → List (Text × ItemKind) → Text → FoundInterface → ExternMarks → ExternMarks → Type 0
KeepsInterfaceOf v es n f old new = (of : WitSources) (k : ExternKind) (w : PlacedWorld) (i : PlacedInterface) → KnowsWorlds of v
    → IsPlacedAt v f.place i → n ≡ placed_identifier i → HasExternInterface of k w i → KeepsExterns of v w k es old new

abbrev pub HasInterfacesOfSide : Validator → List (Text × ItemKind) → List (Text × ItemKind) → ExternMarks → Type 0
HasInterfacesOfSide v es others found = (of : WitSources) (k : ExternKind) (x : PlacedWorld) → AreSideOf of v x k others found → AreInterfacesThere of k x es

abbrev pub KeepsInterfacesOf : Validator → List (Text × ItemKind) → List (Text × ItemKind) → ExternMarks → ExternMarks → ExternMarks → Type 0
KeepsInterfacesOf v es others found old new = (of : WitSources) (k : ExternKind) (w x : PlacedWorld) (i : IncludeItem) → KnowsWorlds of v
    → AreSideOf of v x k others found → SaysInclude of w x i → KeepsExterns of v w k es old new

-- what an exported interface of a package needs
abbrev pub KeepsPathNeeds : Validator → ℕ → WorldContent → Path → ExternMarks → ExternMarks → Type 0
KeepsPathNeeds v scope e p old new = (of : WitSources) (w : PlacedWorld) → IsIndexedScope v scope of w.scope
    → AreInterfacesThere of Export w e.exports → SaysExtern of w Export (extern.Path p) → KeepsExterns of v w Import e.imports old new

abbrev pub HasPathNeeds : Validator → ℕ → WorldContent → Path → WorldMarks → Type 0
HasPathNeeds v scope e p m = (of : WitSources) (w : PlacedWorld) → IsIndexedScope v scope of w.scope → AreMarksOf of v w Export e.exports m.exports → ExportNeeds of v w m (extern.Path p)

-- the names are those of the types of a layer's world
abbrev pub AreOwnTypes : Validator → Layer → NamedTypes → Type 0
AreOwnTypes v l names = names.types.now ≡ v.types.now → (of : WitSources) (rss : List (List Rename)) (x : PlacedWorld) → KnowsWorlds of v
    → IsLayerOf of v l rss x → Renames names rss → AreExportsOf (world_setting of rss x) names.types.now (named_items names)

abbrev pub KeepsOwn : WorldSide → ExternMarks → ExternMarks → Type 0
KeepsOwn side old new = (of : WitSources) (v : Validator) (w x : PlacedWorld) (rss : List (List Rename)) → side.names.types.now ≡ v.types.now → BringsIn of w rss x → Renames side.names rss
    → AreExportsOf (world_setting of rss x) v.types.now (named_items side.names) → KeepsExterns of v w Import (side_items side) old new

abbrev pub KeepsType : WorldSide → Text → ItemKind → ExternMarks → ExternMarks → Type 0
KeepsType side n kind old new = (of : WitSources) (v : Validator) (w : PlacedWorld) (rss : List (List Rename)) → Renames side.names rss
    → HasExternOf of Import w (imported_name rss n kind) (item_tree v.types.now kind)
    → KeepsExterns of v w Import (side_items side) old new

abbrev pub CoversType : WorldSide → Text → ItemKind → Type 0
CoversType side n kind = (rss : List (List Rename)) → Renames side.names rss → HasItem (side_items side) (imported_name rss n kind)

abbrev pub CoversOwn : WorldSide → Type 0
CoversOwn side = (rss : List (List Rename)) → Renames side.names rss → (n : Text) (k : ItemKind) → Contains (named_items side.names) (n, k) → HasItem (side_items side) (imported_name rss n k)

-- marks of both sides stay so in a world that brings in a layer's
abbrev pub KeepsLayer : Validator → WorldContent → Layer → WorldMarks → WorldMarks → Type 0
KeepsLayer v e l old new = (of : WitSources) (w : PlacedWorld) → KnowsWorlds of v → IsLayerIn of v w l → KeepsBoth of v w e old new

abbrev pub KeepsLayers : Validator → WorldContent → List Layer → WorldMarks → WorldMarks → Type 0
KeepsLayers v e ls old new = (of : WitSources) (w : PlacedWorld) → KnowsWorlds of v → ((l : Layer) → Contains ls l → IsLayerIn of v w l) → KeepsBoth of v w e old new

-- what a layer's world says has items
abbrev pub CoversLayer : Validator → WorldContent → Layer → Type 0
CoversLayer v e l = (of : WitSources) (rss : List (List Rename)) (x : PlacedWorld) → KnowsWorlds of v → IsLayerOf of v l rss x → HasNamed of rss x e

-- what was found of exports, of imports, and of all that is needed
abbrev pub HasExportMarks : Validator → WorldText → List Layer → WorldMarks → Type 0
HasExportMarks v text ls m = (of : WitSources) (w : PlacedWorld) → IsTextAt v text of w → AreLayersOf of v w ls → IsReadyFor of v w (text_content text) m

abbrev pub HasImportsFor : Validator → WorldText → WorldMarks → WorldMarks → Type 0
HasImportsFor v text old new = (of : WitSources) (w : PlacedWorld) → IsTextAt v text of w → IsReadyFor of v w (text_content text) old → AreWorldSides of v w (text_content text) new

abbrev pub HasWorldMarks : Validator → WorldText → List Layer → WorldMarks → Type 0
HasWorldMarks v text ls m = (of : WitSources) (w : PlacedWorld) → IsTextAt v text of w → AreLayersOf of v w ls → AreWorldSides of v w (text_content text) m

abbrev pub KeepsAllNeeds : Validator → WorldText → ExternMarks → ExternMarks → Type 0
KeepsAllNeeds v text old new = (of : WitSources) (w : PlacedWorld) → IsTextAt v text of w → AreInterfacesThere of Export w (text_content text).exports
    → KeepsExterns of v w Import (text_content text).imports old new

abbrev pub HasNeedsOf : Validator → WorldText → WorldMarks → Type 0
HasNeedsOf v text m = (of : WitSources) (w : PlacedWorld) → IsTextAt v text of w → AreMarksOf of v w Export (text_content text).exports m.exports → HasAllNeeds of v w m
