-- Which interfaces and worlds need which (WIT.md, "WIT Packages and `use`").
use Rattle.std.specs.Prelude.{◌≡◌, ℕ, Contains, Some}
use Rattle.wac_wit_refusals_sites.specs.Paths.{HasPathOf, LeadsToItem, SeeksMember, ident_of_item}
use Rattle.wac_wit_refusals_sites.specs.declared.paths.Sought.{Sought}
use Rattle.wac_wit_scopes.specs.WitSources.{IsScopeAt, ScopeSyntax, WitSources}
use Rattle.wac_wit_syntax.specs.declared.positions.Span.{Span}
use Rattle.wac_wit_syntax.specs.declared.tree.Ident.{Ident}
use Rattle.wac_wit_syntax.specs.declared.tree.Path.{Path}
use Rattle.wac_wit_syntax.specs.declared.tree.TopItem.{TopItem}

-- an interface or a world uses, includes, imports or exports another
pub record NeedsItem (of : WitSources) (w : ScopeSyntax) (t : TopItem) (v : ScopeSyntax) (s : TopItem) : Type 0 where
  pub path : Path
  pub seeks : Sought
  pub has : HasPathOf of t path seeks
  pub wanted : SeeksMember seeks
  pub leads : LeadsToItem of w path v s

-- it needs another, by way of others maybe
pub data LeadsByNeeds (of : WitSources) (w : ScopeSyntax) (t : TopItem) : ScopeSyntax → TopItem → Type 0 where
  at_once : (v : ScopeSyntax) (s : TopItem) → NeedsItem of w t v s → LeadsByNeeds of w t v s
  by_way : (u : ScopeSyntax) (r : TopItem) (v : ScopeSyntax) (s : TopItem) → LeadsByNeeds of w t u r → NeedsItem of u r v s → LeadsByNeeds of w t v s

-- an interface or a world needs itself
pub record IsNeedCycle (of : WitSources) (file : ℕ) (span : Span) : Type 0 where
  pub scope : ScopeSyntax
  pub at : IsScopeAt of file scope
  pub item : TopItem
  pub among : Contains scope.items item
  pub name : Ident
  pub named : ident_of_item item ≡ Some name
  pub is_at : name.span ≡ span
  pub leads : LeadsByNeeds of scope item scope item
