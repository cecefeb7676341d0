use Rattle.std.proofs.Common.{refl, sym, subst, List, Contains}
use Rattle.std.proofs.lemmas.Option.{slice_get_read}
use Rattle.wac_wit_syntax.specs.declared.tree.NestedPackage.{NestedPackage}
use Rattle.wac_wit_syntax.specs.declared.tree.TopItem.{TopItem}
use Rattle.wac_wit_scopes.specs.Scopes.{HasScope}
use Rattle.wac_wit_scopes.specs.WitSources.{IsScopeAt, in_nested, nested_there, scope_in}
use Rattle.wac_wit_scopes.proofs.PathFacts.{contains_at}
use Rattle.wac_wit_scopes.proofs.ScopeFacts.{All-end, All-next}
use Rattle.wac_wit_scopes.proofs.scopes.push_nested.Goals as goal

pub loop-nested-preserved : goal.loop-nested-preserved
loop-nested-preserved c =
    let packages = c.args.packages.now in
    let index = c.loop-nested.nested-index in
    let nested = c.nested-item.result in
    let done = c.in_ok-push_scope.ensures in
    record {
      known = λ of written knows all.
          let among = contains_at packages index nested (slice_get_read packages _ index nested refl c.loop-nested-test.true c.nested-item.is) in
          let inside = subst (λ (ps : List NestedPackage). Contains ps nested) (sym written.3) among in
          let scope = in_nested written.0 nested written.1 inside in
          let there = nested_there written.0 nested (contains_at of.files c.args.place.file written.0 written.1) written.2 inside refl in
          done.known of (subst (λ (ts : List TopItem). IsScopeAt of c.args.place.file (scope_in nested.name ts)) (sym c.deref.ensures.value) scope, there) knows (c.loop-nested.invariant.known of written knows all);
      keeps = λ w h. done.keeps w (c.loop-nested.invariant.keeps w h);
      has = All-next packages index (λ (p : NestedPackage). HasScope c.loop-nested.scopes.items (scope_in p.name p.items.items)) (λ (p : NestedPackage). HasScope c.push_scope.new.scopes.items (scope_in p.name p.items.items)) nested
          c.loop-nested-test.true c.nested-item.is (λ p. done.keeps (scope_in p.name p.items.items)) c.loop-nested.invariant.has (subst (λ (ts : List TopItem). HasScope c.push_scope.new.scopes.items (scope_in nested.name ts)) c.deref.ensures.value done.has);
    }

pub returns-clause-known : goal.returns-clause-known
returns-clause-known c = c.loop-nested.invariant.known

pub returns-clause-keeps : goal.returns-clause-keeps
returns-clause-keeps c = c.loop-nested.invariant.keeps

pub returns-clause-has : goal.returns-clause-has
returns-clause-has c = All-end c.args.packages.now c.loop-nested.nested-index (λ (p : NestedPackage). HasScope c.loop-nested.scopes.items (scope_in p.name p.items.items)) c.loop-nested-test.false c.loop-nested.invariant.has
