-- Interfaces that a world imports or exports twice (WIT.md, "Worlds").
use Rattle.std.specs.Prelude.{◌≡◌, ℕ, Bool, true, false, List, Contains, Some, slice_get}
use Rattle.wac_wit_refusals_sites.specs.Paths.{LeadsToItem}
use Rattle.wac_wit_scopes.specs.WitSources.{IsEnabled, IsScopeAt, ScopeSyntax, WitSources}
use Rattle.wac_wit_syntax.specs.declared.positions.Span.{Span}
use Rattle.wac_wit_syntax.specs.declared.tree.Extern.TheVariants as extern
use Rattle.wac_wit_syntax.specs.declared.tree.ExternItem.{ExternItem}
use Rattle.wac_wit_syntax.specs.declared.tree.InterfaceDecl.{InterfaceDecl}
use Rattle.wac_wit_syntax.specs.declared.tree.Path.{Path}
use Rattle.wac_wit_syntax.specs.declared.tree.TopItem.{TopItem}
use Rattle.wac_wit_syntax.specs.declared.tree.TopItem.TheVariants as top
use Rattle.wac_wit_syntax.specs.declared.tree.WorldDecl.{WorldDecl}
use Rattle.wac_wit_syntax.specs.declared.tree.WorldItem.{WorldItem}
use Rattle.wac_wit_syntax.specs.declared.tree.WorldItem.TheVariants as world_item

-- the export of a world, or else its import
abbrev pub said_item : Bool → ExternItem → WorldItem
said_item true x = world_item.Export x
said_item false x = world_item.Import x

-- what is imported or exported is what a path leads to, and no feature that is off hides that
pub record HasPathThere (of : WitSources) (x : ExternItem) (path : Path) : Type 0 where
  pub what : x.what ≡ extern.Path path
  pub there : IsEnabled of x.gates

-- an item of a world exports, or else imports, what a path leads to
pub record SaysPath (of : WitSources) (i : WorldItem) (exports : Bool) (path : Path) : Type 0 where
  pub item : ExternItem
  pub is : i ≡ said_item exports item
  pub has : HasPathThere of item path

-- and the path leads there
pub record SaysMember (of : WitSources) (w : ScopeSyntax) (i : WorldItem) (exports : Bool) (v : ScopeSyntax) (t : TopItem) : Type 0 where
  pub path : Path
  pub says : SaysPath of i exports path
  pub leads : LeadsToItem of w path v t

-- that holds of an item at another index
pub record IsSaidElsewhere (of : WitSources) (w : ScopeSyntax) (is : List WorldItem) (index : ℕ) (exports : Bool) (v : ScopeSyntax) (t : TopItem) : Type 0 where
  pub other : ℕ
  pub elsewhere : other ≡ index → ⊥
  pub item : WorldItem
  pub at : slice_get is other ≡ Some item
  pub says : SaysMember of w item exports v t

-- the path of an item leads to an interface that another item exports or imports like it
pub record IsSaidAgain (of : WitSources) (w : ScopeSyntax) (is : List WorldItem) (index : ℕ) (exports : Bool) (path : Path) : Type 0 where
  pub to : ScopeSyntax
  pub decl : InterfaceDecl
  pub leads : LeadsToItem of w path to (top.Interface decl)
  pub again : IsSaidElsewhere of w is index exports to (top.Interface decl)

-- the last name of such a path stands at this place
pub record IsSaidTwiceBy (of : WitSources) (w : ScopeSyntax) (is : List WorldItem) (span : Span) : Type 0 where
  pub index : ℕ
  pub item : WorldItem
  pub at : slice_get is index ≡ Some item
  pub exports : Bool
  pub path : Path
  pub says : SaysPath of item exports path
  pub stands : path.name.span ≡ span
  pub again : IsSaidAgain of w is index exports path

-- in a world that is there
pub record IsSaidTwiceIn (of : WitSources) (w : ScopeSyntax) (span : Span) : Type 0 where
  pub decl : WorldDecl
  pub among : Contains w.items (top.World decl)
  pub there : IsEnabled of decl.gates
  pub twice : IsSaidTwiceBy of w decl.items.items span

-- a world imports or exports an interface twice
pub record IsSaidTwice (of : WitSources) (file : ℕ) (span : Span) : Type 0 where
  pub scope : ScopeSyntax
  pub at : IsScopeAt of file scope
  pub twice : IsSaidTwiceIn of scope span
