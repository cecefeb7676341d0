-- The paths in files, what they ask for, and where they lead (WIT.md, "WIT Packages and `use`" and "Worlds").
use Rattle.std.specs.Prelude.{◌≡◌, ℕ, List, Contains, Option, Some, None}
use Rattle.std.specs.Option.{option_map}
use Rattle.wac_model.specs.Text.{Text}
use Rattle.wac_wit_refusals_sites.specs.Sites.{BodySyntax, HasExternIn, HasInlineIn, HasUseIn, interface_items, world_items}
use Rattle.wac_wit_refusals_sites.specs.declared.paths.Sought.{Sought}
use Rattle.wac_wit_refusals_sites.specs.declared.paths.Sought.TheVariants.{Anything, Interface, OtherName, World}
use Rattle.wac_wit_scopes.specs.WitSources.{IsEnabled, IsScopeAt, IsScopeOf, PathLeadsTo, ScopeSyntax, WitSources, ident_text}
use Rattle.wac_wit_syntax.specs.declared.tree.Extern.TheVariants as extern
use Rattle.wac_wit_syntax.specs.declared.tree.ExternItem.{ExternItem}
use Rattle.wac_wit_syntax.specs.declared.tree.Gates.{Gates}
use Rattle.wac_wit_syntax.specs.declared.tree.Ident.{Ident}
use Rattle.wac_wit_syntax.specs.declared.tree.IncludeItem.{IncludeItem}
use Rattle.wac_wit_syntax.specs.declared.tree.InterfaceDecl.{InterfaceDecl}
use Rattle.wac_wit_syntax.specs.declared.tree.InterfaceItem.{InterfaceItem}
use Rattle.wac_wit_syntax.specs.declared.tree.Path.{Path}
use Rattle.wac_wit_syntax.specs.declared.tree.TopItem.{TopItem}
use Rattle.wac_wit_syntax.specs.declared.tree.TopItem.TheVariants as top
use Rattle.wac_wit_syntax.specs.declared.tree.TopUse.{TopUse}
use Rattle.wac_wit_syntax.specs.declared.tree.UseItem.{UseItem}
use Rattle.wac_wit_syntax.specs.declared.tree.WorldDecl.{WorldDecl}
use Rattle.wac_wit_syntax.specs.declared.tree.WorldItem.{WorldItem}
use Rattle.wac_wit_syntax.specs.declared.tree.WorldItem.TheVariants as world_item

-- the name of an interface or a world, as it stands there
abbrev pub ident_of_item : TopItem → Option Ident
ident_of_item (top.Use u) = None
ident_of_item (top.Interface d) = Some d.name
ident_of_item (top.World d) = Some d.name

-- the name
abbrev pub name_of_item : TopItem → Option Text
name_of_item t = option_map ident_text (ident_of_item t)

-- no feature that is off hides it
abbrev pub IsItemEnabled : WitSources → TopItem → Type 0
IsItemEnabled of (top.Use u) = Unit {0}
IsItemEnabled of (top.Interface d) = IsEnabled of d.gates
IsItemEnabled of (top.World d) = IsEnabled of d.gates

-- a path leads to an interface or a world of a package, whether a feature hides that or not
pub record LeadsToItem (of : WitSources) (w : ScopeSyntax) (path : Path) (v : ScopeSyntax) (t : TopItem) : Type 0 where
  pub name : Text
  pub leads : PathLeadsTo of w path v name
  pub scope : IsScopeOf of v
  pub among : Contains v.items t
  pub named : name_of_item t ≡ Some name

-- an item of an interface or a world has a path, and asks for an interface or a world
pub data HasPathIn : BodySyntax → Gates → Path → Sought → Type 0 where
  by_use : (b : BodySyntax) (u : UseItem) → HasUseIn b u → HasPathIn b u.gates u.path Interface
  by_include : (is : List WorldItem) (i : IncludeItem) → Contains is (world_item.Include i) → HasPathIn (world_items is) i.gates i.path World
  by_extern : (is : List WorldItem) (x : ExternItem) (p : Path) → HasExternIn is x → x.what ≡ extern.Path p → HasPathIn (world_items is) x.gates p Interface

-- an interface, a world, or an interface that is written in the world: no feature that is off hides it
pub data HoldsBody (of : WitSources) : TopItem → BodySyntax → Type 0 where
  of_interface : (d : InterfaceDecl) → IsEnabled of d.gates → HoldsBody of (top.Interface d) (interface_items d.items.items)
  of_world : (d : WorldDecl) → IsEnabled of d.gates → HoldsBody of (top.World d) (world_items d.items.items)
  of_inline : (d : WorldDecl) (js : List InterfaceItem) → IsEnabled of d.gates → HasInlineIn of d.items.items js → HoldsBody of (top.World d) (interface_items js)

-- a path stands in an item of a scope. Outside of interfaces and worlds it gets another name. Inside of those that are there it
-- asks for an interface or a world, but in what a feature hides for no more than that something is there
pub data HasPathOf (of : WitSources) : TopItem → Path → Sought → Type 0 where
  outside : (u : TopUse) → HasPathOf of (top.Use u) u.path OtherName
  inside : (t : TopItem) (b : BodySyntax) (g : Gates) (p : Path) (s : Sought) → HoldsBody of t b → HasPathIn b g p s → IsEnabled of g → HasPathOf of t p s
  in_hidden : (t : TopItem) (b : BodySyntax) (g : Gates) (p : Path) (s : Sought) → HoldsBody of t b → HasPathIn b g p s → (IsEnabled of g → ⊥) → HasPathOf of t p Anything

-- it asks for an interface or a world
abbrev pub SeeksMember : Sought → Type 0
SeeksMember OtherName = ⊥
SeeksMember Anything = ⊥
SeeksMember Interface = Unit {0}
SeeksMember World = Unit {0}

-- a path in a file
pub record PathAt (of : WitSources) (file : ℕ) : Type 0 where
  pub scope : ScopeSyntax
  pub at : IsScopeAt of file scope
  pub item : TopItem
  pub among : Contains scope.items item
  pub path : Path
  pub seeks : Sought
  pub has : HasPathOf of item path seeks
