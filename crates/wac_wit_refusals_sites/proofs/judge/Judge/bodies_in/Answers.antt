use Rattle.std.proofs.Common.{◌≡◌, ℕ, List, Some, Vec, refl, sym, subst}
use Rattle.std.specs.Prelude.{slice_get}
use Rattle.std.specs.declared.alloc.Global.{Global}
use Rattle.std.proofs.lemmas.Option.{slice_get_read}
use Rattle.wac_wit_scopes.specs.declared.scopes.ScopeItems.{ScopeItems}
use Rattle.wac_wit_refusals_sites.specs.Judging.{AreKnownBodies, IsKnownBody}
use Rattle.wac_wit_refusals_sites.specs.declared.bodies.PlacedBody.{PlacedBody}
use Rattle.wac_wit_refusals_sites.proofs.Pushed.{each_none}
use Rattle.wac_wit_refusals_sites.proofs.judge.Judge.bodies_in.Goals as goal
use Rattle.wac_wit_refusals_sites.proofs.judge.Judge.bodies_in.Goals.{then-scope-file+in_ok-push_bodies, else-scope-file}

pub loop-scope-init : goal.loop-scope-init
loop-scope-init c = λ of judges. each_none (IsKnownBody of c.args.file) c.new-bodies.result.items c.new-bodies.ensures.items

pub loop-scope-preserved : goal.loop-scope-preserved
loop-scope-preserved c = λ of judges.
    let before = c.loop-scope.invariant of judges in
    let scope = c.scope-item.result in
    elim c.if-scope-file.branch [
      | then-scope-file+in_ok-push_bodies w ↦
          let at = slice_get_read c.deref-scope-items.result.now _ c.loop-scope.scope-index scope refl c.loop-scope-test.true c.scope-item.is in
          let known = judges.known c.loop-scope.scope-index scope (subst (λ (ws : List ScopeItems). slice_get ws c.loop-scope.scope-index ≡ Some scope) c.deref-scope-items.ensures.value at) in
          let here : scope.file ≡ c.args.file = w.if-scope-file.true in
          let after = w.in_ok-push_bodies.ensures of judges known (subst (λ (k : ℕ). AreKnownBodies of k c.loop-scope.bodies.items) (sym here) before) in
          subst (λ (v : Vec PlacedBody Global). AreKnownBodies of c.args.file v.items) (sym w.bodies-is) (subst (λ (k : ℕ). AreKnownBodies of k w.push_bodies.new.bodies.items) here after)
      | else-scope-file w ↦ subst (λ (v : Vec PlacedBody Global). AreKnownBodies of c.args.file v.items) (sym w.bodies-is) before
    ]

pub returns : goal.returns
returns c = c.loop-scope.invariant
