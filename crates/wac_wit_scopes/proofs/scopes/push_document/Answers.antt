use Rattle.std.proofs.Common.{List, refl, sym, subst}
use Rattle.std.proofs.lemmas.Result.{on_ok_weaker}
use Rattle.wac_wit_syntax.specs.declared.tree.TopItem.{TopItem}
use Rattle.wac_wit_scopes.specs.AllScopes.{HasNestedScopes}
use Rattle.wac_wit_scopes.specs.Scopes.{HasScope}
use Rattle.wac_wit_scopes.specs.WitSources.{scope_in}
use Rattle.wac_wit_scopes.proofs.ScopeFacts.{file_scope, group_named, on_ok_both}
use Rattle.wac_wit_scopes.proofs.scopes.push_document.Goals as goal

pub returns-clause-known : goal.returns-clause-known
returns-clause-known c = on_ok_weaker c.push_nested.result (λ pushes of at knows all.
    let place = c.args.place in
    let scope = file_scope of place c.args.package.now c.args.document.now c.deref.result.now at.0 at.1 c.deref.ensures.value in
    pushes of (_, at.0, refl, sym c.deref-2.ensures.value) knows (c.in_ok-push_scope.ensures.known of (scope, group_named of place.group c.args.package.now at.1) knows all)) c.push_nested.ensures.known

pub returns-clause-keeps : goal.returns-clause-keeps
returns-clause-keeps c = on_ok_weaker c.push_nested.result (λ keeps w h. keeps w (c.in_ok-push_scope.ensures.keeps w h)) c.push_nested.ensures.keeps

pub returns-clause-has : goal.returns-clause-has
returns-clause-has c = on_ok_both c.push_nested.result c.push_nested.ensures.keeps c.push_nested.ensures.has (λ keeps nested. record {
  own = subst (λ (ts : List TopItem). HasScope c.push_nested.new.scopes.items (scope_in c.args.package.now ts)) c.deref.ensures.value (keeps _ c.in_ok-push_scope.ensures.has);
  nested = subst (HasNestedScopes c.push_nested.new.scopes.items) c.deref-2.ensures.value nested;
})
