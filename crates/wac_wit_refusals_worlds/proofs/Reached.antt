-- What interfaces and worlds need, by way of others maybe.
use Rattle.std.proofs.Common.{◌≡◌, ◌∙◌, ap, subst, sym}
use Rattle.std.specs.Prelude.{slice_get}
use Rattle.std.proofs.lemmas.Option.{same_Some}
use Rattle.wac_wit_scopes.specs.Scopes.{scope_syntax}
use Rattle.wac_wit_scopes.specs.WitSources.{WitSources}
use Rattle.wac_wit_scopes.specs.declared.scopes.ScopeItems.{ScopeItems}
use Rattle.wac_wit_syntax.specs.declared.tree.TopItem.{TopItem}
use Rattle.wac_wit_refusals_sites.specs.Leading.{IsPlacedItem}
use Rattle.wac_wit_refusals_worlds.specs.NeededSteps.{NeedsItself}
use Rattle.wac_wit_refusals_worlds.specs.Needs.{LeadsByNeeds}
use Rattle.wac_wit_refusals_sites.specs.declared.hints.MemberPlace.{MemberPlace}
use Rattle.wac_wit_refusals_sites.specs.declared.judge.Judge.{Judge}
use Rattle.wac_wit_refusals_sites.specs.declared.led.LedTo.{LedTo}

module _ (j : Judge) (l s : LedTo) (same : l.place ≡ s.place) (left : IsPlacedItem j l) (right : IsPlacedItem j s) where
  pub same_scope : l.scope ≡ s.scope
  same_scope = same_Some _ _ (sym left.scope ∙ ap (λ (p : MemberPlace). slice_get j.scopes.items p.scope) same ∙ right.scope)

  pub same_item : l.item.now ≡ s.item.now
  same_item = let scope = same_scope in same_Some _ _ (sym left.item ∙ (λ i. slice_get (scope i).items.now (same i).item) ∙ right.item)

  -- what is reached from something, and stands at its place, is that
  pub needs_back : (of : WitSources) → LeadsByNeeds of (scope_syntax s.scope) s.item.now (scope_syntax l.scope) l.item.now → NeedsItself of s
  needs_back of leads = subst (λ (t : TopItem). LeadsByNeeds of (scope_syntax s.scope) s.item.now (scope_syntax s.scope) t) same_item
      (subst (λ (w : ScopeItems). LeadsByNeeds of (scope_syntax s.scope) s.item.now (scope_syntax w) l.item.now) same_scope leads)
