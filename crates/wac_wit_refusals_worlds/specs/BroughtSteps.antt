-- What is known while names are listed that come into a world.
use Rattle.std.specs.Prelude.{◌≡◌, ℕ, Bool, Contains, List, Some, slice_get}
use Rattle.wac_wit_refusals_worlds.specs.Brought.{ComesBy, HasSideName}
use Rattle.wac_wit_refusals_sites.specs.TypeSites.{AreOneName}
use Rattle.wac_wit_refusals_worlds.specs.declared.coming.ComingName.{ComingName}
use Rattle.wac_wit_refusals_worlds.specs.declared.worlds.IncludedWorld.{IncludedWorld}
use Rattle.wac_wit_scopes.specs.Scopes.{scope_syntax}
use Rattle.wac_wit_scopes.specs.WitSources.{IsEnabled, ScopeSyntax, WitSources, ident_text}
use Rattle.wac_wit_syntax.specs.declared.positions.Span.{Span}
use Rattle.wac_wit_syntax.specs.declared.tree.IncludeItem.{IncludeItem}
use Rattle.wac_wit_syntax.specs.declared.tree.WorldItem.{WorldItem}
use Rattle.wac_wit_refusals_worlds.specs.IncludeSteps.{LeadsToPlacedWorld}
use Rattle.wac_wit_syntax.specs.declared.tree.WorldItem.TheVariants as world_item

-- names that come into a world
abbrev pub IsComing : WitSources → Bool → ScopeSyntax → List WorldItem → ComingName → Type 0
IsComing of exports w is c = ComesBy of exports w is c.index c.source.now c.name.now

abbrev pub AreComing : WitSources → Bool → ScopeSyntax → List WorldItem → List ComingName → Type 0
AreComing of exports w is cs = (c : ComingName) → Contains cs c → IsComing of exports w is c

-- a world that another includes
pub record IsIncludedWorld (of : WitSources) (w : ScopeSyntax) (is : List WorldItem) (v : IncludedWorld) : Type 0 where
  pub at : slice_get is v.index ≡ Some (world_item.Include v.item.now)
  pub there : IsEnabled of v.item.now.gates
  pub leads : LeadsToPlacedWorld of w v.item.now.path v.world

abbrev pub AreIncludedWorlds : WitSources → ScopeSyntax → List WorldItem → List IncludedWorld → Type 0
AreIncludedWorlds of w is vs = (v : IncludedWorld) → Contains vs v → IsIncludedWorld of w is v

-- this item of a world, which stands at an index, includes it
abbrev pub IsIncludedBy : WitSources → ScopeSyntax → ℕ → WorldItem → IncludedWorld → Type 0
IsIncludedBy of w k t v = (is : List WorldItem) → slice_get is k ≡ Some t → IsIncludedWorld of w is v

-- worlds stay such as what the item includes is put behind them
abbrev pub AddsIncludedBy : WitSources → ScopeSyntax → ℕ → WorldItem → List IncludedWorld → List IncludedWorld → Type 0
AddsIncludedBy of w k t old new = (is : List WorldItem) → slice_get is k ≡ Some t → AreIncludedWorlds of w is old → AreIncludedWorlds of w is new

-- names that a world has
abbrev pub AreSideNames : WitSources → Bool → ScopeSyntax → List WorldItem → List ComingName → Type 0
AreSideNames of exports w is cs = (c : ComingName) → Contains cs c → HasSideName of exports w is c.name.now

-- names that an included world has
abbrev pub AreNamesInside : WitSources → Bool → IncludedWorld → List ComingName → Type 0
AreNamesInside of exports v cs = AreSideNames of exports (scope_syntax v.world.scope) v.world.items.now cs

-- the names are still such as come into a world when what those of an included world become is put behind them
abbrev pub AddsBrought : WitSources → IncludedWorld → List ComingName → List ComingName → List ComingName → Type 0
AddsBrought of v inside old new = (exports : Bool) (w : ScopeSyntax) (is : List WorldItem) → IsIncludedWorld of w is v → AreNamesInside of exports v inside
    → AreComing of exports w is old → AreComing of exports w is new

-- two names are one, and come from two places
pub record AreTwins (n m : ComingName) : Type 0 where
  pub apart : n.index ≡ m.index → ident_text n.source.now ≡ ident_text m.source.now → ⊥
  pub same : AreOneName (ident_text n.name.now) (ident_text m.name.now)

-- one of them comes by the item at an index
pub record AreTwinsBy (index : ℕ) (n m : ComingName) : Type 0 where
  pub by : n.index ≡ index
  pub twins : AreTwins n m

pub record HasTwins (ns : List ComingName) (index : ℕ) : Type 0 where
  pub one : ComingName
  pub among : Contains ns one
  pub other : ComingName
  pub other_among : Contains ns other
  pub are : AreTwinsBy index one other

-- an item is an `include`, the last name of whose path stands at a place
pub record IsIncludeAt (t : WorldItem) (span : Span) : Type 0 where
  pub item : IncludeItem
  pub is : t ≡ world_item.Include item
  pub place : item.path.name.span ≡ span
