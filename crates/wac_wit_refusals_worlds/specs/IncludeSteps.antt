-- What is known while new names in an `include` are looked at.
use Rattle.std.specs.Prelude.{◌≡◌, Contains, List}
use Rattle.wac_model.specs.Text.{Text}
use Rattle.wac_wit_refusals_worlds.specs.Brought.{IsRenamedTo}
use Rattle.wac_wit_refusals_worlds.specs.Includes.{LacksName, NameSource, RenamesUnknown, from_include, from_world}
use Rattle.wac_wit_refusals_sites.specs.Paths.{LeadsToItem}
use Rattle.wac_wit_refusals_worlds.specs.declared.worlds.PlacedWorld.{PlacedWorld}
use Rattle.wac_wit_refusals_worlds.specs.declared.sought_names.SoughtName.{SoughtName}
use Rattle.wac_wit_scopes.specs.Scopes.{scope_syntax}
use Rattle.wac_wit_scopes.specs.WitSources.{IsEnabled, ScopeSyntax, WitSources, given_name, ident_text}
use Rattle.wac_wit_syntax.specs.declared.positions.Span.{Span}
use Rattle.wac_wit_syntax.specs.declared.tree.Ident.{Ident}
use Rattle.wac_wit_syntax.specs.declared.tree.IncludeItem.{IncludeItem}
use Rattle.wac_wit_syntax.specs.declared.tree.Path.{Path}
use Rattle.wac_wit_syntax.specs.declared.tree.Rename.{Rename}
use Rattle.wac_wit_syntax.specs.declared.tree.TopItem.TheVariants as top
use Rattle.wac_wit_syntax.specs.declared.tree.WorldDecl.{WorldDecl}
use Rattle.wac_wit_syntax.specs.declared.tree.WorldItem.{WorldItem}
use Rattle.wac_wit_syntax.specs.declared.tree.WorldItem.TheVariants as world_item

-- a world as the program has it
abbrev pub names_of_world : PlacedWorld → NameSource
names_of_world p = from_world (scope_syntax p.scope) p.items.now

-- an item is an `include` that is there, or it isn't
pub record IsIncludeThere (of : WitSources) (t : WorldItem) (i : IncludeItem) : Type 0 where
  pub is : t ≡ world_item.Include i
  pub there : IsEnabled of i.gates

abbrev pub IsNoInclude : WitSources → WorldItem → Type 0
IsNoInclude of t = (i : IncludeItem) → t ≡ world_item.Include i → IsEnabled of i.gates → ⊥

-- a path leads to a world
pub record LeadsToPlacedWorld (of : WitSources) (w : ScopeSyntax) (path : Path) (p : PlacedWorld) : Type 0 where
  pub decl : WorldDecl
  pub leads : LeadsToItem of w path (scope_syntax p.scope) (top.World decl)
  pub items : decl.items.items ≡ p.items.now

-- a name that is looked for in a world isn't there
abbrev pub IsLacking : WitSources → SoughtName → Type 0
IsLacking of s = LacksName of (names_of_world s.world) (ident_text s.name.now)

abbrev pub AreLacking : WitSources → List SoughtName → Type 0
AreLacking of ss = (s : SoughtName) → Contains ss s → IsLacking of s

-- where the new ones are lacking, the old ones are, and this holds
abbrev pub LacksWith : WitSources → List SoughtName → List SoughtName → Type 0 → Type 0
LacksWith of old new H = AreLacking of new → AreLacking of old × H

-- no `include` of the items brings a name
abbrev pub IncludesLack : WitSources → ScopeSyntax → List WorldItem → Text → Type 0
IncludesLack of w is n = (i : IncludeItem) → Contains is (world_item.Include i) → IsEnabled of i.gates → LacksName of (from_include w i) n

-- no `include` of the world brings the name that is looked for there
abbrev pub AllIncludesLack : WitSources → SoughtName → Type 0
AllIncludesLack of s = IncludesLack of (scope_syntax s.world.scope) s.world.items.now (ident_text s.name.now)

-- an item brings none
abbrev pub ItemLacks : WitSources → ScopeSyntax → Text → WorldItem → Type 0
ItemLacks of w n t = (i : IncludeItem) → t ≡ world_item.Include i → IsEnabled of i.gates → LacksName of (from_include w i) n

-- an item of the world brings none, nor does an `include` of it
abbrev pub ItemLacksSought : WitSources → SoughtName → WorldItem → Type 0
ItemLacksSought of s = ItemLacks of (scope_syntax s.world.scope) (ident_text s.name.now)

abbrev pub IncludeLacksSought : WitSources → SoughtName → IncludeItem → Type 0
IncludeLacksSought of s i = LacksName of (from_include (scope_syntax s.world.scope) i) (ident_text s.name.now)

-- no new name is given to a name
abbrev pub HasNoNewName : List Rename → Ident → Type 0
HasNoNewName rs n = (r : Rename) → Contains rs r → ident_text r.name ≡ ident_text n → ⊥

-- a name that becomes another isn't in a world
abbrev pub NewNameLacks : WitSources → PlacedWorld → Text → Rename → Type 0
NewNameLacks of p n r = given_name r.name r.alias ≡ n → LacksName of (names_of_world p) (ident_text r.name)

-- what becomes a name by new names, or stays that, isn't in a world
abbrev pub RenamedLack : WitSources → PlacedWorld → List Rename → Text → Type 0
RenamedLack of p rs n = (m k : Ident) → IsRenamedTo rs m k → ident_text k ≡ n → LacksName of (names_of_world p) (ident_text m)

-- a world has no import and no export of one of the names
pub record LacksSome (of : WitSources) (p : PlacedWorld) (rs : List Rename) : Type 0 where
  pub renamed : Rename
  pub among : Contains rs renamed
  pub lacks : LacksName of (names_of_world p) (ident_text renamed.name)

-- an item of a world is an `include` whose path's name stands at a place
pub record RenamesUnknownAt (of : WitSources) (w : ScopeSyntax) (t : WorldItem) (span : Span) : Type 0 where
  pub item : IncludeItem
  pub is : t ≡ world_item.Include item
  pub there : IsEnabled of item.gates
  pub is_at : item.path.name.span ≡ span
  pub unknown : RenamesUnknown of w item

-- a world has such an item
pub record HasUnknownRename (of : WitSources) (w : ScopeSyntax) (is : List WorldItem) (span : Span) : Type 0 where
  pub item : WorldItem
  pub among : Contains is item
  pub renames : RenamesUnknownAt of w item span
