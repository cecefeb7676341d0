-- What is wrong with new names in an `include` (WIT.md, "Worlds").
use Rattle.std.specs.Prelude.{◌≡◌, ℕ, Contains, List}
use Rattle.wac_model.specs.Text.{Text}
use Rattle.wac_wit_scopes.specs.WitSources.{IsEnabled, IsScopeAt, ScopeSyntax, WitSources, given_name, ident_text}
use Rattle.wac_wit_syntax.specs.declared.positions.Span.{Span}
use Rattle.wac_wit_syntax.specs.declared.tree.Extern.{Extern}
use Rattle.wac_wit_syntax.specs.declared.tree.Extern.TheVariants as extern
use Rattle.wac_wit_syntax.specs.declared.tree.Ident.{Ident}
use Rattle.wac_wit_syntax.specs.declared.tree.IncludeItem.{IncludeItem}
use Rattle.wac_wit_syntax.specs.declared.tree.Rename.{Rename}
use Rattle.wac_wit_syntax.specs.declared.tree.TopItem.TheVariants as top
use Rattle.wac_wit_syntax.specs.declared.tree.WorldDecl.{WorldDecl}
use Rattle.wac_wit_syntax.specs.declared.tree.WorldItem.{WorldItem}
use Rattle.wac_wit_syntax.specs.declared.tree.WorldItem.TheVariants as world_item
use Rattle.wac_wit_refusals_worlds.specs.Brought.{IsRenamedTo}
use Rattle.wac_wit_refusals_sites.specs.Paths.{LeadsToItem}
use Rattle.wac_wit_refusals_sites.specs.Sites.{HasBody, world_items}

-- an import or an export has this name of its own; what stands under the identifier of an interface has none
abbrev pub IsNamedExtern : Extern → Text → Type 0
IsNamedExtern (extern.Path p) n = ⊥
IsNamedExtern (extern.Func id s) n = ident_text id ≡ n
IsNamedExtern (extern.Inline id is) n = ident_text id ≡ n
IsNamedExtern (extern.Named id p) n = ident_text id ≡ n

-- an item of a world gives it an import or an export of this name; an `include` gives none of its own
abbrev pub GivesPlainName : WorldItem → Text → Type 0
GivesPlainName (world_item.Use u) n = (r : Rename) × Contains u.names.items r × (given_name r.name r.alias ≡ n)
GivesPlainName (world_item.Type t) n = ident_text t.name ≡ n
GivesPlainName (world_item.Include i) n = ⊥
GivesPlainName (world_item.Import x) n = IsNamedExtern x.what n
GivesPlainName (world_item.Export x) n = IsNamedExtern x.what n

-- no feature that is off hides it
abbrev pub IsWorldItemEnabled : WitSources → WorldItem → Type 0
IsWorldItemEnabled of (world_item.Use u) = IsEnabled of u.gates
IsWorldItemEnabled of (world_item.Type t) = IsEnabled of t.gates
IsWorldItemEnabled of (world_item.Include i) = IsEnabled of i.gates
IsWorldItemEnabled of (world_item.Import x) = IsEnabled of x.gates
IsWorldItemEnabled of (world_item.Export x) = IsEnabled of x.gates

-- no item of a world gives it an import or an export of this name
abbrev pub LacksPlainName : WitSources → List WorldItem → Text → Type 0
LacksPlainName of is n = (t : WorldItem) → Contains is t → GivesPlainName t n → IsWorldItemEnabled of t → ⊥

-- where names of a world come from: its own items and what it includes, or one `include` of it
pub data NameSource : Type 0 where
  from_world : ScopeSyntax → List WorldItem → NameSource
  from_include : ScopeSyntax → IncludeItem → NameSource

-- no import and no export of this name comes from there
pub data LacksName (of : WitSources) : NameSource → Text → Type 0 where
  a_world_lacks : (w : ScopeSyntax) (is : List WorldItem) (n : Text) → LacksPlainName of is n
      → ((i : IncludeItem) → Contains is (world_item.Include i) → IsEnabled of i.gates → LacksName of (from_include w i) n) → LacksName of (from_world w is) n
  an_include_lacks : (w v : ScopeSyntax) (i : IncludeItem) (d : WorldDecl) (n : Text) → LeadsToItem of w i.path v (top.World d)
      → ((m k : Ident) → IsRenamedTo i.renames.items m k → ident_text k ≡ n → LacksName of (from_world v d.items.items) (ident_text m)) → LacksName of (from_include w i) n

-- an `include` gives a new name to what the included world doesn't have under a name of its own
pub record RenamesUnknown (of : WitSources) (w : ScopeSyntax) (i : IncludeItem) : Type 0 where
  pub renamed : Rename
  pub renames : Contains i.renames.items renamed
  pub to : ScopeSyntax
  pub included : WorldDecl
  pub leads : LeadsToItem of w i.path to (top.World included)
  pub lacks : LacksName of (from_world to included.items.items) (ident_text renamed.name)

pub record IsUnknownRename (of : WitSources) (file : ℕ) (span : Span) : Type 0 where
  pub scope : ScopeSyntax
  pub at : IsScopeAt of file scope
  pub items : List WorldItem
  pub has : HasBody of scope (world_items items)
  pub item : IncludeItem
  pub includes : Contains items (world_item.Include item)
  pub there : IsEnabled of item.gates
  pub is_at : item.path.name.span ≡ span
  pub unknown : RenamesUnknown of scope item
