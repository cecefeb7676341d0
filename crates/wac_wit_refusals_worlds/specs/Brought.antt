-- The names that a world has with those of the worlds that it includes, and which of them an `include` brings twice (WIT.md, "Worlds";
-- explainer, "Name Uniqueness").
use Rattle.std.specs.Prelude.{◌≡◌, ◌<◌, ℕ, Bool, true, false, Contains, List, Some, slice_get}
use Rattle.wac_wit_refusals_types.specs.NamesTwice.{TakesExportName, TakesName}
use Rattle.wac_wit_refusals_sites.specs.Paths.{LeadsToItem}
use Rattle.wac_wit_refusals_sites.specs.Sites.{HasBody, alias_ident, world_items}
use Rattle.wac_wit_refusals_sites.specs.TypeSites.{AreOneName}
use Rattle.wac_wit_scopes.specs.WitSources.{IsEnabled, IsScopeAt, ScopeSyntax, WitSources, ident_text}
use Rattle.wac_wit_syntax.specs.declared.positions.Span.{Span}
use Rattle.wac_wit_syntax.specs.declared.tree.Ident.{Ident}
use Rattle.wac_wit_syntax.specs.declared.tree.IncludeItem.{IncludeItem}
use Rattle.wac_wit_syntax.specs.declared.tree.Rename.{Rename}
use Rattle.wac_wit_syntax.specs.declared.tree.TopItem.TheVariants as top
use Rattle.wac_wit_syntax.specs.declared.tree.WorldDecl.{WorldDecl}
use Rattle.wac_wit_syntax.specs.declared.tree.WorldItem.{WorldItem}
use Rattle.wac_wit_syntax.specs.declared.tree.WorldItem.TheVariants as world_item

-- the names that a world's own items give its exports, or else its types and imports, each with the index of the item and its index there
abbrev pub TakesSideName : WitSources → Bool → List WorldItem → ℕ → ℕ → Ident → Type 0
TakesSideName of true is = TakesExportName of (world_items is)
TakesSideName of false is = TakesName of (world_items is)

-- what a name becomes by new names: of two for one name the first counts, and one that gets none stays
pub data IsRenamedTo (rs : List Rename) (n : Ident) : Ident → Type 0 where
  newly_named : (i : ℕ) (r : Rename) → slice_get rs i ≡ Some r → ident_text r.name ≡ ident_text n
      → ((j : ℕ) (q : Rename) → j < i → slice_get rs j ≡ Some q → ident_text q.name ≡ ident_text n → ⊥) → IsRenamedTo rs n (alias_ident r.name r.alias)
  as_before : ((r : Rename) → Contains rs r → ident_text r.name ≡ ident_text n → ⊥) → IsRenamedTo rs n n

-- a world has exports, or else imports, of this name: its own, and those of the worlds that it includes
pub data HasSideName (of : WitSources) (exports : Bool) : ScopeSyntax → List WorldItem → Ident → Type 0 where
  an_own_name : (w : ScopeSyntax) (is : List WorldItem) (i j : ℕ) (n : Ident) → TakesSideName of exports is i j n → HasSideName of exports w is n
  an_included_name : (w v : ScopeSyntax) (is : List WorldItem) (i : IncludeItem) (d : WorldDecl) (m n : Ident) → Contains is (world_item.Include i) → IsEnabled of i.gates
      → LeadsToItem of w i.path v (top.World d) → HasSideName of exports v d.items.items m → IsRenamedTo i.renames.items m n → HasSideName of exports w is n

-- the item at an index of a world gives it the name `n`, which was `m` where it comes from
pub data ComesBy (of : WitSources) (exports : Bool) (w : ScopeSyntax) (is : List WorldItem) (k : ℕ) : Ident → Ident → Type 0 where
  by_own_item : (j : ℕ) (n : Ident) → TakesSideName of exports is k j n → ComesBy of exports w is k n n
  by_included : (i : IncludeItem) (v : ScopeSyntax) (d : WorldDecl) (m n : Ident) → slice_get is k ≡ Some (world_item.Include i) → IsEnabled of i.gates
      → LeadsToItem of w i.path v (top.World d) → HasSideName of exports v d.items.items m → IsRenamedTo i.renames.items m n → ComesBy of exports w is k m n

-- an `include`, the last name of whose path stands at this place, brings a name that another item gives too, or that two names of the
-- included world become
pub record BringsTwice (of : WitSources) (exports : Bool) (w : ScopeSyntax) (is : List WorldItem) (span : Span) : Type 0 where
  pub index : ℕ
  pub item : IncludeItem
  pub at : slice_get is index ≡ Some (world_item.Include item)
  pub place : item.path.name.span ≡ span
  pub source : Ident
  pub name : Ident
  pub comes : ComesBy of exports w is index source name
  pub other_index : ℕ
  pub other_source : Ident
  pub other_name : Ident
  pub other_comes : ComesBy of exports w is other_index other_source other_name
  pub apart : index ≡ other_index → ident_text source ≡ ident_text other_source → ⊥
  pub same : AreOneName (ident_text name) (ident_text other_name)

-- an `include` in a world of a file brings an export, or else an import, of a name that comes twice
pub record IsComingTwice (of : WitSources) (file : ℕ) (span : Span) (exports : Bool) : Type 0 where
  pub scope : ScopeSyntax
  pub at : IsScopeAt of file scope
  pub items : List WorldItem
  pub has : HasBody of scope (world_items items)
  pub twice : BringsTwice of exports scope items span

-- an `include` brings a type or an import of a name that comes twice
abbrev pub IsIncludedTwice : WitSources → ℕ → Span → Type 0
IsIncludedTwice of file span = IsComingTwice of file span false
