-- Interfaces that the exports of a world need as exports and, by way of what isn't exported, as imports (WIT.md, "Worlds": what an
-- exported interface uses is the export of that, if there is one, or else the import; an `include` brings what its world exports).
use Rattle.std.specs.Prelude.{◌≡◌, ℕ, true, Contains, List, Vec}
use Rattle.std.specs.declared.alloc.Global.{Global}
use Rattle.wac_wit_refusals_worlds.specs.Includes.{NameSource, from_include, from_world}
use Rattle.wac_wit_refusals_worlds.specs.Needs.{LeadsByNeeds, NeedsItem}
use Rattle.wac_wit_refusals_sites.specs.Paths.{LeadsToItem, name_of_item}
use Rattle.wac_wit_refusals_worlds.specs.SaidTwice.{SaysMember}
use Rattle.wac_wit_refusals_sites.specs.Sites.{HasBody, world_items}
use Rattle.wac_wit_scopes.specs.WitSources.{IsEnabled, IsScopeAt, ScopeSyntax, WitSources}
use Rattle.wac_wit_syntax.specs.declared.positions.Span.{Span}
use Rattle.wac_wit_syntax.specs.declared.tree.Extern.{Extern}
use Rattle.wac_wit_syntax.specs.declared.tree.Extern.TheVariants as extern
use Rattle.wac_wit_syntax.specs.declared.tree.ExternItem.{ExternItem}
use Rattle.wac_wit_syntax.specs.declared.tree.Ident.{Ident}
use Rattle.wac_wit_syntax.specs.declared.tree.IncludeItem.{IncludeItem}
use Rattle.wac_wit_syntax.specs.declared.tree.InterfaceItem.{InterfaceItem}
use Rattle.wac_wit_syntax.specs.declared.tree.InterfaceItem.TheVariants as inside
use Rattle.wac_wit_syntax.specs.declared.tree.Path.{Path}
use Rattle.wac_wit_syntax.specs.declared.tree.TopItem.{TopItem}
use Rattle.wac_wit_syntax.specs.declared.tree.TopItem.TheVariants as top
use Rattle.wac_wit_syntax.specs.declared.tree.UseItem.{UseItem}
use Rattle.wac_wit_syntax.specs.declared.tree.WorldDecl.{WorldDecl}
use Rattle.wac_wit_syntax.specs.declared.tree.WorldItem.{WorldItem}
use Rattle.wac_wit_syntax.specs.declared.tree.WorldItem.TheVariants as world_item

-- an export is an interface, or needs it, by way of others maybe
pub data IsNeededBy (of : WitSources) (w : ScopeSyntax) (x : ExternItem) : ScopeSyntax → TopItem → Type 0 where
  is_itself : (p : Path) (v : ScopeSyntax) (s : TopItem) → x.what ≡ extern.Path p → LeadsToItem of w p v s → IsNeededBy of w x v s
  by_written_use : (n : Ident) (is : Vec InterfaceItem Global) (i : UseItem) (v : ScopeSyntax) (s : TopItem) → x.what ≡ extern.Inline n is → Contains is.items (inside.Use i) → IsEnabled of i.gates
      → LeadsToItem of w i.path v s → IsNeededBy of w x v s
  by_way_of : (u : ScopeSyntax) (r : TopItem) (v : ScopeSyntax) (s : TopItem) → IsNeededBy of w x u r → NeedsItem of u r v s → IsNeededBy of w x v s

-- an export of a world that is there
pub record IsExportThere (of : WitSources) (is : List WorldItem) (x : ExternItem) : Type 0 where
  pub among : Contains is (world_item.Export x)
  pub there : IsEnabled of x.gates

-- a world, the worlds that it includes, and those that these include
pub data IsWithin (of : WitSources) (w : ScopeSyntax) (is : List WorldItem) : ScopeSyntax → List WorldItem → Type 0 where
  the_world : IsWithin of w is w is
  by_include_of : (u v : ScopeSyntax) (js : List WorldItem) (i : IncludeItem) (d : WorldDecl) → IsWithin of w is u js → Contains js (world_item.Include i) → IsEnabled of i.gates
      → LeadsToItem of u i.path v (top.World d) → IsWithin of w is v d.items.items

-- an export of a world: it stands there, or in a world that comes with what it includes
pub record HasExport (of : WitSources) (w : ScopeSyntax) (is : List WorldItem) (u : ScopeSyntax) (x : ExternItem) : Type 0 where
  pub items : List WorldItem
  pub within : IsWithin of w is u items
  pub there : IsExportThere of items x

-- a path leads to an interface of another package or of another name
pub record LeadsElsewhere (of : WitSources) (w : ScopeSyntax) (p : Path) (v : ScopeSyntax) (s : TopItem) : Type 0 where
  pub to : ScopeSyntax
  pub item : TopItem
  pub leads : LeadsToItem of w p to item
  pub other : to.package ≡ v.package → name_of_item item ≡ name_of_item s → ⊥

-- what the items of a world export by paths are other interfaces
abbrev pub ExportsOthers : WitSources → ScopeSyntax → List WorldItem → ScopeSyntax → TopItem → Type 0
ExportsOthers of w is v s = (x : ExternItem) (p : Path) → IsExportThere of is x → x.what ≡ extern.Path p → LeadsElsewhere of w p v s

-- an interface isn't exported by a world, nor by what it includes
pub data IsNotExported (of : WitSources) (v : ScopeSyntax) (s : TopItem) : NameSource → Type 0 where
  a_world_exports_others : (w : ScopeSyntax) (is : List WorldItem) → ExportsOthers of w is v s
      → ((i : IncludeItem) → Contains is (world_item.Include i) → IsEnabled of i.gates → IsNotExported of v s (from_include w i)) → IsNotExported of v s (from_world w is)
  an_include_brings_others : (w u : ScopeSyntax) (i : IncludeItem) (d : WorldDecl) → LeadsToItem of w i.path u (top.World d)
      → IsNotExported of v s (from_world u d.items.items) → IsNotExported of v s (from_include w i)

-- a world exports it, or a world that comes with what it includes does
pub record IsExported (of : WitSources) (w : ScopeSyntax) (is : List WorldItem) (v : ScopeSyntax) (s : TopItem) : Type 0 where
  pub scope : ScopeSyntax
  pub items : List WorldItem
  pub within : IsWithin of w is scope items
  pub item : WorldItem
  pub among : Contains items item
  pub says : SaysMember of scope item true v s

-- an export needs it by way of what isn't exported, so as an import
pub record IsNeededAsImport (of : WitSources) (w : ScopeSyntax) (is : List WorldItem) (v : ScopeSyntax) (s : TopItem) : Type 0 where
  pub from : ScopeSyntax
  pub export : ExternItem
  pub has : HasExport of w is from export
  pub scope : ScopeSyntax
  pub between : TopItem
  pub needed : IsNeededBy of from export scope between
  pub imported : IsNotExported of scope between (from_world w is)
  pub leads : LeadsByNeeds of scope between v s

-- an export is or needs an interface that the world exports, and that an export needs as an import
pub record NeedsOnBothSides (of : WitSources) (w : ScopeSyntax) (is : List WorldItem) (from : ScopeSyntax) (x : ExternItem) : Type 0 where
  pub scope : ScopeSyntax
  pub item : TopItem
  pub needed : IsNeededBy of from x scope item
  pub exported : IsExported of w is scope item
  pub imported : IsNeededAsImport of w is scope item

-- an item of a world gives it an export: it is that, or an `include` that brings it
pub data GivesExport (of : WitSources) (w : ScopeSyntax) : WorldItem → ScopeSyntax → ExternItem → Type 0 where
  by_itself : (x : ExternItem) → IsEnabled of x.gates → GivesExport of w (world_item.Export x) w x
  by_its_include : (i : IncludeItem) (v u : ScopeSyntax) (d : WorldDecl) (x : ExternItem) → IsEnabled of i.gates → LeadsToItem of w i.path v (top.World d) → HasExport of v d.items.items u x
      → GivesExport of w (world_item.Include i) u x

-- the name of an import or an export, or the last one of its path
abbrev pub ident_of_extern : Extern → Ident
ident_of_extern (extern.Path p) = p.name
ident_of_extern (extern.Func n s) = n
ident_of_extern (extern.Inline n is) = n
ident_of_extern (extern.Named n p) = n

-- the name of an export, or the last one of an `include`'s path, stands at a place
abbrev pub GivesExportsAt : WorldItem → Span → Type 0
GivesExportsAt (world_item.Export x) span = (ident_of_extern x.what).span ≡ span
GivesExportsAt (world_item.Include i) span = i.path.name.span ≡ span
GivesExportsAt _ span = ⊥

-- such an export, given by what stands at this place
pub record IsNeededTwice (of : WitSources) (file : ℕ) (span : Span) : Type 0 where
  pub scope : ScopeSyntax
  pub at : IsScopeAt of file scope
  pub items : List WorldItem
  pub has : HasBody of scope (world_items items)
  pub item : WorldItem
  pub among : Contains items item
  pub is_at : GivesExportsAt item span
  pub from : ScopeSyntax
  pub export : ExternItem
  pub gives : GivesExport of scope item from export
  pub twice : NeedsOnBothSides of scope items from export
