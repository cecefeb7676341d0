-- What worlds stand for (WIT.md, "Worlds"): a rule for each way in which something comes to be imported or exported.
use Rattle.std.specs.Prelude.{◌≡◌, List, [], ◌∷◌, Contains, Some, IsSome, Vec}
use Rattle.std.specs.declared.alloc.Global.{Global}
use Rattle.wac_model.specs.ItemTree.{ItemTree, Items, composite, func, item, item_at, leaf, world}
use Rattle.wac_model.specs.Text.{Text}
use Rattle.wac_model.specs.ValueTree.{FuncTree}
use Rattle.wac_component.specs.declared.worlds.ExternKind.{ExternKind}
use Rattle.wac_component.specs.declared.worlds.ExternKind.TheVariants.{Import, Export}
use Rattle.wac_wit_syntax.specs.declared.tree.Extern.{Extern}
use Rattle.wac_wit_syntax.specs.declared.tree.Extern.TheVariants as extern
use Rattle.wac_wit_syntax.specs.declared.tree.ExternItem.{ExternItem}
use Rattle.wac_wit_syntax.specs.declared.tree.Ident.{Ident}
use Rattle.wac_wit_syntax.specs.declared.tree.IncludeItem.{IncludeItem}
use Rattle.wac_wit_syntax.specs.declared.tree.InterfaceItem.{InterfaceItem}
use Rattle.wac_wit_syntax.specs.declared.tree.Path.{Path}
use Rattle.wac_wit_syntax.specs.declared.tree.Rename.{Rename}
use Rattle.wac_wit_syntax.specs.declared.tree.Signature.{Signature}
use Rattle.wac_wit_syntax.specs.declared.tree.TypeItem.{TypeItem}
use Rattle.wac_wit_syntax.specs.declared.tree.UseItem.{UseItem}
use Rattle.wac_wit_syntax.specs.declared.tree.WorldItem.{WorldItem}
use Rattle.wac_wit_syntax.specs.declared.tree.WorldItem.TheVariants as of_world
use Rattle.wac_wit_scopes.specs.WitSources.{WitSources, ScopeSyntax, IsEnabled, ident_text}
use Rattle.wac_wit_validation_types.specs.Placed.{LeadsToInterface, LeadsToWorld, PlacedInterface, PlacedWorld, placed_identifier}
use Rattle.wac_wit_validation_types.specs.Denoted.{Denoted, NamesType, Setting, renamed_by, uses_in}
use Rattle.wac_wit_validation_types.specs.Functions.{HasMethod, IsFuncOf}
use Rattle.wac_wit_validation_types.specs.Interfaces.{IsInterfaceTree, named_tree}

-- ---- what a world says itself

abbrev pub uses_of_world : List WorldItem → List UseItem
uses_of_world [] = []
uses_of_world (of_world.Use u ∷ is) = u ∷ uses_of_world is
uses_of_world (of_world.Type t ∷ is) = uses_of_world is
uses_of_world (of_world.Include i ∷ is) = uses_of_world is
uses_of_world (of_world.Import e ∷ is) = uses_of_world is
uses_of_world (of_world.Export e ∷ is) = uses_of_world is

abbrev pub types_of_world : List WorldItem → List TypeItem
types_of_world [] = []
types_of_world (of_world.Use u ∷ is) = types_of_world is
types_of_world (of_world.Type t ∷ is) = t ∷ types_of_world is
types_of_world (of_world.Include i ∷ is) = types_of_world is
types_of_world (of_world.Import e ∷ is) = types_of_world is
types_of_world (of_world.Export e ∷ is) = types_of_world is

abbrev pub world_uses : PlacedWorld → List UseItem
world_uses w = uses_of_world w.decl.items.items

-- where the names in a world's functions are looked up, which comes in somewhere under these new names
abbrev pub world_setting : WitSources → List (List Rename) → PlacedWorld → Setting
world_setting of rss w = record { sources = of; scope = w.scope; uses = world_uses w; types = types_of_world w.decl.items.items; funcs = []; renames = rss }

abbrev pub extern_item : ExternKind → ExternItem → WorldItem
extern_item Import e = of_world.Import e
extern_item Export e = of_world.Export e

-- a world says that it imports, or exports, this
pub record SaysExtern (of : WitSources) (w : PlacedWorld) (k : ExternKind) (x : Extern) : Type 0 where
  pub item : ExternItem
  pub among : Contains w.decl.items.items (extern_item k item)
  pub there : IsEnabled of item.gates
  pub what : item.what ≡ x

-- a world says that it includes another one
pub record SaysInclude (of : WitSources) (w v : PlacedWorld) (i : IncludeItem) : Type 0 where
  pub among : Contains w.decl.items.items (of_world.Include i)
  pub there : IsEnabled of i.gates
  pub leads : LeadsToWorld of w.scope i.path v

-- a world is that one, or comes into it by what it includes, and by what that includes: under the new names of each, the last
-- ones first
pub data BringsIn (of : WitSources) : PlacedWorld → List (List Rename) → PlacedWorld → Type 0 where
  itself : {w : PlacedWorld} → BringsIn of w [] w
  by_include : {w v x : PlacedWorld} {rss : List (List Rename)} (i : IncludeItem) → SaysInclude of w v i → BringsIn of v rss x → BringsIn of w (i.renames.items ∷ rss) x

-- ---- interfaces of packages

-- a type of the interface is used
pub record UsesInterface (of : WitSources) (w : ScopeSyntax) (us : List UseItem) (i : PlacedInterface) : Type 0 where
  pub item : UseItem
  pub name : Rename
  pub among : Contains us item
  pub there : IsEnabled of item.gates
  pub within : Contains item.names.items name
  pub leads : LeadsToInterface of w item.path i

-- a world says that it exports the interface
pub record ExportsInterface (of : WitSources) (w : PlacedWorld) (i : PlacedInterface) : Type 0 where
  pub path : Path
  pub says : SaysExtern of w Export (extern.Path path)
  pub leads : LeadsToInterface of w.scope path i

-- an interface is used by what a world exports itself
pub data IsUsedByExport (of : WitSources) (w : PlacedWorld) (i : PlacedInterface) : Type 0 where
  used_by_interface : {v : PlacedInterface} (p : Path) → SaysExtern of w Export (extern.Path p) → LeadsToInterface of w.scope p v
      → UsesInterface of v.scope (uses_in v.decl.items.items) i → IsUsedByExport of w i
  used_by_inline : (id : Ident) (is : Vec InterfaceItem Global) → SaysExtern of w Export (extern.Inline id is) → UsesInterface of w.scope (uses_in is.items) i → IsUsedByExport of w i

-- a world, or one that comes into it, exports an interface with this identifier
pub record ExportsIdentifier (of : WitSources) (w : PlacedWorld) (n : Text) : Type 0 where
  pub renames : List (List Rename)
  pub inside : PlacedWorld
  pub brings : BringsIn of w renames inside
  pub interface : PlacedInterface
  pub exports : ExportsInterface of inside interface
  pub identifier : placed_identifier interface ≡ n

-- what a world imports for its own items: what it says; what the world itself uses, and what it exports does, if that isn't
-- exported; and what imported interfaces use
pub data ImportsInterface (of : WitSources) (w : PlacedWorld) : PlacedInterface → Type 0 where
  imported : {i : PlacedInterface} (p : Path) → SaysExtern of w Import (extern.Path p) → LeadsToInterface of w.scope p i → ImportsInterface of w i
  used_by_world : {i : PlacedInterface} → UsesInterface of w.scope (world_uses w) i → ImportsInterface of w i
  used_inside : {i : PlacedInterface} (id : Ident) (is : Vec InterfaceItem Global) → SaysExtern of w Import (extern.Inline id is)
      → UsesInterface of w.scope (uses_in is.items) i → ImportsInterface of w i
  used_by_export : {i : PlacedInterface} → IsUsedByExport of w i → (ExportsIdentifier of w (placed_identifier i) → ⊥) → ImportsInterface of w i
  used_by_import : {v i : PlacedInterface} → ImportsInterface of w v → UsesInterface of v.scope (uses_in v.decl.items.items) i → ImportsInterface of w i

abbrev pub SaysInterface : WitSources → ExternKind → PlacedWorld → PlacedInterface → Type 0
SaysInterface of Import w i = ImportsInterface of w i
SaysInterface of Export w i = ExportsInterface of w i

-- a world imports, or exports, the interface, itself or by a world that comes into it
pub record HasExternInterface (of : WitSources) (k : ExternKind) (w : PlacedWorld) (i : PlacedInterface) : Type 0 where
  pub renames : List (List Rename)
  pub inside : PlacedWorld
  pub brings : BringsIn of w renames inside
  pub says : SaysInterface of k inside i

-- ---- all that a world imports or exports

-- what it says itself, and what the worlds say that come into it, under the new names that this gets
pub data HasExternOf (of : WitSources) : ExternKind → PlacedWorld → Text → ItemTree → Type 0 where
  extern_interface : {k : ExternKind} {w : PlacedWorld} {t : ItemTree} (i : PlacedInterface) → HasExternInterface of k w i
      → IsInterfaceTree of i.scope i.decl.items.items t → HasExternOf of k w (placed_identifier i) t
  extern_inline : {k : ExternKind} {w v : PlacedWorld} {rss : List (List Rename)} {t : ItemTree} (id : Ident) (is : Vec InterfaceItem Global)
      → BringsIn of w rss v → SaysExtern of v k (extern.Inline id is)
      → IsInterfaceTree of v.scope is.items t → HasExternOf of k w (renamed_by rss (ident_text id)) t
  extern_func : {k : ExternKind} {w v : PlacedWorld} {rss : List (List Rename)} {g : FuncTree} (id : Ident) (sig : Signature) → BringsIn of w rss v → SaysExtern of v k (extern.Func id sig)
      → IsFuncOf (world_setting of rss v) sig [] (λ r. r) g → HasExternOf of k w (renamed_by rss (ident_text id)) (leaf item (func g))
  -- the types of a world, with those that it uses, and their functions are imports
  extern_type : {w v : PlacedWorld} {rss : List (List Rename)} {n : Text} {m : Denoted} → BringsIn of w rss v → NamesType (world_setting of rss v) n m
      → HasExternOf of Import w (renamed_by rss n) (named_tree m)
  extern_method : {w v : PlacedWorld} {rss : List (List Rename)} {n : Text} {g : FuncTree} → BringsIn of w rss v
      → HasMethod (world_setting of rss v) n g → HasExternOf of Import w n (leaf item (func g))

-- items are those that the text says, and nothing that the text says is left out
pub record AreWorldExterns (of : WitSources) (k : ExternKind) (w : PlacedWorld) (is : Items) : Type 0 where
  pub each : (n : Text) (x : ItemTree) → item_at is n ≡ Some x → HasExternOf of k w n x
  pub all : (n : Text) (x : ItemTree) → HasExternOf of k w n x → IsSome (item_at is n)

-- the tree of a world
pub record IsWorldTree (of : WitSources) (w : PlacedWorld) (t : ItemTree) : Type 0 where
  pub imports : Items
  pub exports : Items
  pub tree : t ≡ composite item world imports exports
  pub are_imports : AreWorldExterns of Import w imports
  pub are_exports : AreWorldExterns of Export w exports
