-- What is known while interfaces that exports need are looked for.
use Rattle.std.specs.Prelude.{◌≡◌, ℕ, true, Contains, IsSome, List, None, Option, Some}
use Rattle.indexmap.specs.IndexMap.{get_by_text}
use Rattle.wac_model.specs.Text.{Text}
use Rattle.wac_wit_refusals_sites.specs.Leading.{IsPlacedItem}
use Rattle.wac_wit_refusals_worlds.specs.NeededTwice.{GivesExport, GivesExportsAt, HasExport, IsExportThere, IsExported, IsNeededAsImport, IsNeededBy, IsNotExported, IsWithin, NeedsOnBothSides}
use Rattle.wac_wit_refusals_worlds.specs.Needs.{LeadsByNeeds, NeedsItem}
use Rattle.wac_wit_refusals_sites.specs.Paths.{LeadsToItem, name_of_item}
use Rattle.wac_wit_refusals_worlds.specs.declared.needs.Reached.{Reached}
use Rattle.wac_wit_refusals_worlds.specs.declared.worlds.PlacedWorld.{PlacedWorld}
use Rattle.wac_wit_refusals_worlds.specs.declared.exports.PlacedExport.{PlacedExport}
use Rattle.wac_wit_refusals_worlds.specs.declared.exports.WorldExports.{WorldExports}
use Rattle.wac_wit_refusals_sites.specs.declared.judge.Judge.{Judge}
use Rattle.wac_wit_refusals_sites.specs.declared.led.LedTo.{LedTo}
use Rattle.wac_wit_scopes.specs.Scopes.{IsKnownScope, scope_syntax}
use Rattle.wac_wit_scopes.specs.WitSources.{IsEnabled, PackageId, ScopeSyntax, WitSources, interface_identifier}
use Rattle.wac_wit_syntax.specs.declared.positions.Span.{Span}
use Rattle.wac_wit_syntax.specs.declared.tree.Extern.TheVariants as extern
use Rattle.wac_wit_syntax.specs.declared.tree.ExternItem.{ExternItem}
use Rattle.wac_wit_syntax.specs.declared.tree.IncludeItem.{IncludeItem}
use Rattle.wac_wit_syntax.specs.declared.tree.InterfaceItem.{InterfaceItem}
use Rattle.wac_wit_syntax.specs.declared.tree.InterfaceItem.TheVariants as inside
use Rattle.wac_wit_syntax.specs.declared.tree.Path.{Path}
use Rattle.wac_wit_syntax.specs.declared.tree.TopItem.{TopItem}
use Rattle.wac_wit_syntax.specs.declared.tree.UseItem.{UseItem}
use Rattle.wac_wit_syntax.specs.declared.tree.WorldItem.{WorldItem}
use Rattle.wac_wit_refusals_worlds.specs.IncludeSteps.{LeadsToPlacedWorld, names_of_world}
use Rattle.wac_wit_refusals_worlds.specs.SaidFound.{SaysFound}
use Rattle.wac_wit_refusals_worlds.specs.Includes.{NameSource, from_include}
use Rattle.wac_wit_syntax.specs.declared.tree.WorldItem.TheVariants as world_item

-- what needs an interface or a world: one of these, one of some exports, some export of a world, or such by way of what isn't
-- exported
pub data Needing : Type 0 where
  this_item : ScopeSyntax → TopItem → Needing
  one_of : List PlacedExport → Needing
  some_export : ScopeSyntax → List WorldItem → Needing
  as_import : ScopeSyntax → List WorldItem → Needing

-- one of some exports needs it
pub record IsNeededByOne (of : WitSources) (xs : List PlacedExport) (v : ScopeSyntax) (s : TopItem) : Type 0 where
  pub export : PlacedExport
  pub among : Contains xs export
  pub needed : IsNeededBy of (scope_syntax export.scope) export.item.now v s

-- some export of a world needs it
pub record IsNeededBySome (of : WitSources) (w : ScopeSyntax) (is : List WorldItem) (v : ScopeSyntax) (s : TopItem) : Type 0 where
  pub from : ScopeSyntax
  pub export : ExternItem
  pub has : HasExport of w is from export
  pub needed : IsNeededBy of from export v s

abbrev pub IsNeededFor : WitSources → Needing → ScopeSyntax → TopItem → Type 0
IsNeededFor of (this_item w t) v s = LeadsByNeeds of w t v s
IsNeededFor of (one_of xs) v s = IsNeededByOne of xs v s
IsNeededFor of (some_export w is) v s = IsNeededBySome of w is v s
IsNeededFor of (as_import w is) v s = IsNeededAsImport of w is v s

-- what was found is needed
pub record IsFoundNeed (of : WitSources) (j : Judge) (n : Needing) (l : LedTo) : Type 0 where
  pub known : IsKnownScope of l.scope
  pub placed : IsPlacedItem j l
  pub needed : IsNeededFor of n (scope_syntax l.scope) l.item.now

abbrev pub AreNeeded : WitSources → Judge → Needing → List LedTo → Type 0
AreNeeded of j n ls = (l : LedTo) → Contains ls l → IsFoundNeed of j n l

-- what was found stays such as more is put behind it
abbrev pub AddsNeeded : WitSources → Judge → Needing → Reached → Reached → Type 0
AddsNeeded of j n old new = AreNeeded of j n old.found.items → AreNeeded of j n new.found.items

-- where a path leads is needed
abbrev pub NeedsLed : WitSources → Judge → Needing → ScopeSyntax → Path → Type 0
NeedsLed of j n w p = (l : LedTo) → IsKnownScope of l.scope → IsPlacedItem j l → LeadsToItem of w p (scope_syntax l.scope) l.item.now → IsFoundNeed of j n l

-- what is needed by what was found is needed
abbrev pub NeedsNext : WitSources → Judge → Needing → LedTo → Type 0
NeedsNext of j n l = (v : LedTo) → IsKnownScope of v.scope → IsPlacedItem j v → NeedsItem of (scope_syntax l.scope) l.item.now (scope_syntax v.scope) v.item.now → IsFoundNeed of j n v

-- what this needs is put behind what was found
abbrev pub AddsNext : WitSources → Judge → Needing → LedTo → Reached → Reached → Type 0
AddsNext of j n l old new = NeedsNext of j n l → AddsNeeded of j n old new

-- what is used is needed
abbrev pub NeedsUse : WitSources → Judge → Needing → ScopeSyntax → InterfaceItem → Type 0
NeedsUse of j n w t = (i : UseItem) → t ≡ inside.Use i → IsEnabled of i.gates → NeedsLed of j n w i.path

abbrev pub NeedsUses : WitSources → Judge → Needing → ScopeSyntax → List InterfaceItem → Type 0
NeedsUses of j n w is = (t : InterfaceItem) → Contains is t → NeedsUse of j n w t

-- what an export is or needs is needed
abbrev pub NeedsWhat : WitSources → Judge → Needing → ScopeSyntax → ExternItem → Type 0
NeedsWhat of j n w x = (l : LedTo) → IsKnownScope of l.scope → IsPlacedItem j l → IsNeededBy of w x (scope_syntax l.scope) l.item.now → IsFoundNeed of j n l

-- the identifier of an interface is listed
pub record IsNameListed (listed : Text → Option ℕ) (p : PackageId) (t : TopItem) : Type 0 where
  pub name : Text
  pub named : name_of_item t ≡ Some name
  pub has : IsSome (listed (interface_identifier p name))

-- a path leads to such a one
pub record IsListed (of : WitSources) (w : ScopeSyntax) (listed : Text → Option ℕ) (p : Path) : Type 0 where
  pub to : ScopeSyntax
  pub item : TopItem
  pub leads : LeadsToItem of w p to item
  pub has : IsNameListed listed to.package item

-- what an item exports is listed
abbrev pub IsExternListed : WitSources → ScopeSyntax → (Text → Option ℕ) → ExternItem → Type 0
IsExternListed of w listed x = (p : Path) → IsEnabled of x.gates → x.what ≡ extern.Path p → IsListed of w listed p

abbrev pub IsExportListed : WitSources → ScopeSyntax → (Text → Option ℕ) → WorldItem → Type 0
IsExportListed of w listed t = (x : ExternItem) → t ≡ world_item.Export x → IsExternListed of w listed x

abbrev pub ListsExports : WitSources → ScopeSyntax → (Text → Option ℕ) → List WorldItem → Type 0
ListsExports of w listed is = (t : WorldItem) → Contains is t → IsExportListed of w listed t

-- what is listed stays so
abbrev pub KeepsListed : (Text → Option ℕ) → (Text → Option ℕ) → Type 0
KeepsListed old new = (k : Text) → IsSome (old k) → IsSome (new k)

-- what each of the worlds exports is listed
abbrev pub ListsWorlds : WitSources → (Text → Option ℕ) → List PlacedWorld → Type 0
ListsWorlds of listed ps = (p : PlacedWorld) → Contains ps p → ListsExports of (scope_syntax p.scope) listed p.items.now

-- a world comes with what another one includes, or is that
abbrev pub IsWithinWorld : WitSources → PlacedWorld → PlacedWorld → Type 0
IsWithinWorld of w p = IsWithin of (scope_syntax w.scope) w.items.now (scope_syntax p.scope) p.items.now

-- these are all the worlds that come from there
pub data AreAllWorlds (of : WitSources) (ps : List PlacedWorld) : NameSource → Type 0 where
  a_world_among : (p : PlacedWorld) → Contains ps p
      → ((i : IncludeItem) → Contains p.items.now (world_item.Include i) → IsEnabled of i.gates → AreAllWorlds of ps (from_include (scope_syntax p.scope) i)) → AreAllWorlds of ps (names_of_world p)
  an_include_among : (w : ScopeSyntax) (i : IncludeItem) (p : PlacedWorld) → LeadsToPlacedWorld of w i.path p → AreAllWorlds of ps (names_of_world p) → AreAllWorlds of ps (from_include w i)

-- a world and all the worlds that come with what it includes
pub record AreAllWithin (of : WitSources) (w : PlacedWorld) (ps : List PlacedWorld) : Type 0 where
  pub within : (p : PlacedWorld) → Contains ps p → IsWithinWorld of w p
  pub all : AreAllWorlds of ps (names_of_world w)

-- worlds stay there as others are put behind them
abbrev pub KeepsWorlds : List PlacedWorld → List PlacedWorld → Type 0
KeepsWorlds old new = (p : PlacedWorld) → Contains old p → Contains new p

-- they stay such as come with a world when those that come with one of them are put behind them
abbrev pub AddsWithin : WitSources → PlacedWorld → List PlacedWorld → List PlacedWorld → Type 0
AddsWithin of inner old new = (w : PlacedWorld) → IsWithinWorld of w inner → ((p : PlacedWorld) → Contains old p → IsWithinWorld of w p) → (p : PlacedWorld) → Contains new p → IsWithinWorld of w p

-- a world was put behind others, and the worlds that come with what it includes: these are all
pub record PutsWorlds (of : WitSources) (w : PlacedWorld) (old new : List PlacedWorld) : Type 0 where
  pub keeps : KeepsWorlds old new
  pub all : AreAllWorlds of new (names_of_world w)
  pub adds : AddsWithin of w old new

-- all worlds that a world comes with are known, and all that they export is listed
pub record AreExports (of : WitSources) (e : WorldExports) : Type 0 where
  pub worlds : AreAllWithin of e.world e.worlds.items
  pub listed : ListsWorlds of (get_by_text e.listed) e.worlds.items

abbrev pub some_of : WorldExports → Needing
some_of e = some_export (scope_syntax e.world.scope) e.world.items.now

abbrev pub imports_of : WorldExports → Needing
imports_of e = as_import (scope_syntax e.world.scope) e.world.items.now

abbrev pub AreImports : WitSources → Judge → WorldExports → Reached → Type 0
AreImports of j e r = AreNeeded of j (imports_of e) r.found.items

-- what was found is needed as an import, and stays such as more is put behind it
abbrev pub AddsImports : WitSources → Judge → WorldExports → Reached → Reached → Type 0
AddsImports of j e old new = AreExports of e → AreImports of j e old → AreImports of j e new

-- no identifier of what was found is listed
abbrev pub IsUnlisted : WorldExports → LedTo → Type 0
IsUnlisted e l = (n : Text) → name_of_item l.item.now ≡ Some n → get_by_text e.listed (interface_identifier (scope_syntax l.scope).package n) ≡ None

-- what was found is exported, or isn't
abbrev pub IsFoundExported : WitSources → WorldExports → LedTo → Type 0
IsFoundExported of e l = IsExported of (scope_syntax e.world.scope) e.world.items.now (scope_syntax l.scope) l.item.now

abbrev pub IsFoundUnexported : WitSources → WorldExports → LedTo → Type 0
IsFoundUnexported of e l = IsNotExported of (scope_syntax l.scope) l.item.now (names_of_world e.world)

-- an item of a world exports what was found
pub record IsExportedBy (of : WitSources) (w : PlacedWorld) (l : LedTo) : Type 0 where
  pub item : WorldItem
  pub among : Contains w.items.now item
  pub says : SaysFound of w.scope item true l

-- an item is an export that is there
pub record IsTheExport (of : WitSources) (t : WorldItem) (x : ExternItem) : Type 0 where
  pub is : t ≡ world_item.Export x
  pub there : IsEnabled of x.gates

-- exports that an item of a world gives it
abbrev pub AreGiven : WitSources → ScopeSyntax → WorldItem → List PlacedExport → Type 0
AreGiven of w t xs = (x : PlacedExport) → Contains xs x → GivesExport of w t (scope_syntax x.scope) x.item.now

-- exports that an `include` brings
abbrev pub AreBrought : WitSources → ScopeSyntax → IncludeItem → List PlacedExport → Type 0
AreBrought of w i xs = IsEnabled of i.gates → AreGiven of w (world_item.Include i) xs

-- exports stay such as a world has when those that stand in a world that comes with it are put behind them
abbrev pub AreExportsIn : WitSources → PlacedWorld → List PlacedExport → Type 0
AreExportsIn of w xs = (x : PlacedExport) → Contains xs x → HasExport of (scope_syntax w.scope) w.items.now (scope_syntax x.scope) x.item.now

abbrev pub AddsExportsOf : WitSources → PlacedWorld → List PlacedExport → List PlacedExport → Type 0
AddsExportsOf of inner old new = (w : PlacedWorld) → IsWithinWorld of w inner → AreExportsIn of w old → AreExportsIn of w new

-- what the exports of a world need is needed
abbrev pub NeedsExports : WitSources → Judge → Needing → PlacedWorld → Type 0
NeedsExports of j n p = (x : ExternItem) → IsExportThere of p.items.now x → NeedsWhat of j n (scope_syntax p.scope) x

-- an export needs something on both sides of a world
abbrev pub NeedsFoundTwice : WitSources → PlacedWorld → PlacedExport → Type 0
NeedsFoundTwice of w x = NeedsOnBothSides of (scope_syntax w.scope) w.items.now (scope_syntax x.scope) x.item.now

-- one of them does
pub record NeedsSomeTwice (of : WitSources) (e : WorldExports) (xs : List PlacedExport) : Type 0 where
  pub export : PlacedExport
  pub among : Contains xs export
  pub twice : NeedsFoundTwice of e.world export

-- one that an item of a world gives it does
pub record GivesNeededTwice (of : WitSources) (w : PlacedWorld) (t : WorldItem) : Type 0 where
  pub export : PlacedExport
  pub gives : GivesExport of (scope_syntax w.scope) t (scope_syntax export.scope) export.item.now
  pub twice : NeedsFoundTwice of w export

-- and stands at a place
pub record HasNeededTwice (of : WitSources) (w : PlacedWorld) (span : Span) : Type 0 where
  pub item : WorldItem
  pub among : Contains w.items.now item
  pub is_at : GivesExportsAt item span
  pub gives : GivesNeededTwice of w item

-- what was found is exported, if it stands where it is said to, and at its place something else was found
pub record IsOnBothSides (of : WitSources) (j : Judge) (e : WorldExports) (r : Reached) (l : LedTo) : Type 0 where
  pub exported : IsPlacedItem j l → AreExports of e → IsFoundExported of e l
  pub other : LedTo
  pub among : Contains r.found.items other
  pub place : other.place ≡ l.place

-- an interface or a world needs itself
abbrev pub NeedsItself : WitSources → LedTo → Type 0
NeedsItself of l = LeadsByNeeds of (scope_syntax l.scope) l.item.now (scope_syntax l.scope) l.item.now
