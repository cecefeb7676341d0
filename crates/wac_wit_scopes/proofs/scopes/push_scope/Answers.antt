use Rattle.std.proofs.Common.{◌∙◌, List, sym, subst}
use Rattle.std.specs.Prelude.{All}
use Rattle.std.proofs.lemmas.List.Elements.{All-push}
use Rattle.wac_wit_scopes.specs.Scopes.{HasScope, IsKnownScope}
use Rattle.wac_wit_scopes.specs.WitSources.{HaveOneName, package_id, scope_in}
use Rattle.wac_wit_scopes.specs.declared.scopes.ScopeItems.{ScopeItems}
use Rattle.wac_wit_scopes.proofs.AllScopes.{HasScope-last, HasScope-push}
use Rattle.wac_wit_scopes.proofs.ScopeFacts.{scope_of_file}
use Rattle.wac_wit_scopes.proofs.scopes.push_scope.Goals as goal

pub returns-clause-keeps : goal.returns-clause-keeps
returns-clause-keeps c = λ w h. subst (λ (ws : List ScopeItems). HasScope ws w) (sym c.in_ok-push.ensures.items) (HasScope-push c.args.scopes.now.items _ w h)

pub returns-clause-has : goal.returns-clause-has
returns-clause-has c = subst (λ (ws : List ScopeItems). HasScope ws (scope_in c.args.package.now c.args.items.now)) (sym c.in_ok-push.ensures.items) (HasScope-last c.args.scopes.now.items _)

pub returns-clause-known : goal.returns-clause-known
returns-clause-known c = λ of there knows all.
    let alone = c.in_ok-is_alone.ensures in
    subst (All (IsKnownScope of)) (sym c.in_ok-push.ensures.items) (All-push (IsKnownScope of) _ _ all (record {
      is_scope = scope_of_file of c.args.place.file _ there.0;
      in_file = there.0;
      in_group = there.1;
      alone = λ is v inside same.
          let known = knows v inside in
          known.1 ∙ alone is known.0 known.2 (subst (λ q. HaveOneName q (package_id c.args.package.now)) known.1 same);
    }))
