-- Laws of what texts denote: an interface or a world denotes one tree, and no tree that mistakes its text in one of these ways.
use Rattle.std.specs.Prelude.{◌≡◌, List, [], ◌∷◌, Contains, Option, Some, None, IsSome, string_bytes}
use Rattle.wac_model.specs.ItemTree.{ItemTree, Items, composite, interface, item, item_at, no_items, world}
use Rattle.wac_model.specs.Order.{Fits}
use Rattle.wac_model.specs.Text.{Text}
use Rattle.wac_model.specs.ValueTree.{FuncTree, ValueTree, borrow, no_parts, node, own}
use Rattle.wac_component.specs.declared.worlds.ExternKind.TheVariants.{Import, Export}
use Rattle.wac_wit_scopes.specs.WitSources.{HasInterface, IsEnabled, PathLeadsTo, ScopeSyntax, WitSources, given_name, ident_text}
use Rattle.wac_wit_syntax.specs.declared.tree.Extern.TheVariants as extern
use Rattle.wac_wit_syntax.specs.declared.tree.Gate.{Gate}
use Rattle.wac_wit_syntax.specs.declared.tree.Ident.{Ident}
use Rattle.wac_wit_syntax.specs.declared.tree.IncludeItem.{IncludeItem}
use Rattle.wac_wit_syntax.specs.declared.tree.InterfaceDecl.{InterfaceDecl}
use Rattle.wac_wit_syntax.specs.declared.tree.InterfaceItem.{InterfaceItem}
use Rattle.wac_wit_syntax.specs.declared.tree.PackageName.{PackageName}
use Rattle.wac_wit_syntax.specs.declared.tree.Path.{Path}
use Rattle.wac_wit_syntax.specs.declared.tree.Rename.{Rename}
use Rattle.wac_wit_syntax.specs.declared.tree.Signature.{Signature}
use Rattle.wac_wit_syntax.specs.declared.tree.TypeExpr.TheVariants as ty
use Rattle.wac_wit_syntax.specs.declared.tree.UseItem.{UseItem}
use Rattle.wac_wit_validation_types.specs.Denoted.{Denoted, IsValue, NamesType, Setting, interface_setting, renamed, uses_in}
use Rattle.wac_wit_validation_types.specs.Functions.{IsFuncOf}
use Rattle.wac_wit_validation_types.specs.Interfaces.{IsInterfaceTree}
use Rattle.wac_wit_validation_types.specs.OneMeaning.{ExportsStandForOne}
use Rattle.wac_wit_validation_types.specs.OneWorld.{HasOneExtern, IsOneItem}
use Rattle.wac_wit_validation_types.specs.Placed.{PlacedWorld}
use Rattle.wac_wit_validation_types.specs.Worlds.{IsWorldTree, SaysExtern, SaysInclude, world_setting}

-- what is borrowed is no owned handle, and the other way round (WIT.md, "Handles")
pub record HandlesStandAsWritten : Type 0 where
  pub borrowed : (s : Setting) (id : Ident) (v : ValueTree) → IsValue s (ty.Borrow id) v → (r : Text) × (v ≡ node (borrow r) no_parts)
  pub owned : (s : Setting) (id : Ident) (v : ValueTree) → IsValue s (ty.Own id) v → (r : Text) × (v ≡ node (own r) no_parts)

-- a type that an interface uses is among its exports, under the name that it gets there (WIT.md, "Item: `use`")
abbrev pub UsedTypesAreExported : Type 0
UsedTypesAreExported = (of : WitSources) (w v : ScopeSyntax) (is : List InterfaceItem) (u : UseItem) (r : Rename) (i : Text) (d : InterfaceDecl) (m : Denoted) (exports : Items)
    → Contains (uses_in is) u → IsEnabled of u.gates → Contains u.names.items r
    → PathLeadsTo of w u.path v i → HasInterface of v i d → NamesType (interface_setting of v d.items.items) (ident_text r.name) m
    → IsInterfaceTree of w is (composite item interface no_items exports) → IsSome (item_at exports (given_name r.name r.alias))

-- a path that gives a version leads into a package of that version (WIT.md, "Package Names")
abbrev pub PathsLeadToTheirVersion : Type 0
PathsLeadToTheirVersion = (of : WitSources) (w v : ScopeSyntax) (path : Path) (n : PackageName) (g : Gate) (i : Text)
    → path.package ≡ Some n → n.version ≡ Some g → PathLeadsTo of w path v i → v.package.version ≡ Some (string_bytes g.text)

-- a function of an included world stands under its new name (WIT.md, "Union of Worlds with `include`")
pub record IncludedStandRenamed : Type 0 where
  pub imports : (of : WitSources) (w v : PlacedWorld) (i : IncludeItem) (id : Ident) (sig : Signature) (g : FuncTree) (is es : Items)
      → SaysInclude of w v i → SaysExtern of v Import (extern.Func id sig) → IsFuncOf (world_setting of (i.renames.items ∷ []) v) sig [] (λ r. r) g
      → IsWorldTree of w (composite item world is es) → IsSome (item_at is (renamed i.renames.items (ident_text id)))
  pub exports : (of : WitSources) (w v : PlacedWorld) (i : IncludeItem) (id : Ident) (sig : Signature) (g : FuncTree) (is es : Items)
      → SaysInclude of w v i → SaysExtern of v Export (extern.Func id sig) → IsFuncOf (world_setting of (i.renames.items ∷ []) v) sig [] (λ r. r) g
      → IsWorldTree of w (composite item world is es) → IsSome (item_at es (renamed i.renames.items (ident_text id)))

-- where names of exports stand for one item, the trees that an interface denotes have the same items
abbrev pub InterfacesHaveOneTree : Type 0
InterfacesHaveOneTree = (of : WitSources) (w : ScopeSyntax) (i : Text) (d : InterfaceDecl) (es fs : Items) (n : Text) → ExportsStandForOne of → HasInterface of w i d
    → IsInterfaceTree of w d.items.items (composite item interface no_items es) → IsInterfaceTree of w d.items.items (composite item interface no_items fs) → item_at es n ≡ item_at fs n

-- there is nothing in both places, or one item
abbrev pub AreOneAt : WitSources → Option ItemTree → Option ItemTree → Type 0
AreOneAt of None None = Unit {0}
AreOneAt of None (Some y) = ⊥
AreOneAt of (Some x) None = ⊥
AreOneAt of (Some x) (Some y) = IsOneItem of x y

-- where its names stand for one item, the trees that a world denotes have the same imports and exports
abbrev pub WorldsHaveOneTree : Type 0
WorldsHaveOneTree = (of : WitSources) (w : PlacedWorld) (is es js fs : Items) (n : Text) → HasOneExtern of w
    → IsWorldTree of w (composite item world is es) → IsWorldTree of w (composite item world js fs) → AreOneAt of (item_at is n) (item_at js n) × AreOneAt of (item_at es n) (item_at fs n)

-- so each of the trees that an interface or a world denotes fits where another one is asked for
pub record TreesOfOneTextFit : Type 0 where
  pub interfaces : (of : WitSources) (w : ScopeSyntax) (i : Text) (d : InterfaceDecl) (x y : ItemTree) → ExportsStandForOne of → HasInterface of w i d
      → IsInterfaceTree of w d.items.items x → IsInterfaceTree of w d.items.items y → Fits x y
  pub worlds : (of : WitSources) (w : PlacedWorld) (x y : ItemTree) → HasOneExtern of w → IsWorldTree of w x → IsWorldTree of w y → Fits x y
