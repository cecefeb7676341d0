use Rattle.std.proofs.Common.{Contains, List, Vec, subst, sym}
use Rattle.std.specs.declared.alloc.Global.{Global}
use Rattle.wac_wit_scopes.specs.Scopes.{scope_syntax}
use Rattle.wac_wit_syntax.specs.declared.tree.WorldItem.{WorldItem}
use Rattle.wac_wit_refusals_sites.specs.Judging.{AreKnownBodies}
use Rattle.wac_wit_refusals_sites.specs.Sites.{HasBody, a_world, world_items}
use Rattle.wac_wit_refusals_sites.specs.declared.bodies.PlacedBody.{PlacedBody}
use Rattle.wac_wit_refusals_sites.proofs.judge.Judge.push_world.Goals as goal
use Rattle.wac_wit_refusals_sites.proofs.judge.Judge.push_world.Goals.{in-Some+in_ok-push_inline, in_default}

pub loop-item-init : goal.loop-item-init
loop-item-init c = λ of judges known has old. old

pub loop-item-preserved : goal.loop-item-preserved
loop-item-preserved c = λ of judges known has old.
    let before = c.loop-item.invariant of judges known has old in
    elim c.match-extern_of.branch [
      | in-Some+in_ok-push_inline w ↦
          let among = subst (λ (is : List WorldItem). Contains is c.item-item.result) c.deref-item-items.ensures.value (c.loop-item.item-index, c.loop-item-test.true, sym c.item-item.is) in
          subst (λ (v : Vec PlacedBody Global). AreKnownBodies of c.args.scope.now.file v.items) (sym w.bodies-is) (w.in_ok-push_inline.ensures of judges known c.args.decl.now has (w.in-Some.ensures c.args.decl.now.items.items among) before)
      | in_default w ↦ subst (λ (v : Vec PlacedBody Global). AreKnownBodies of c.args.scope.now.file v.items) (sym w.bodies-is) before
    ]

pub returns : goal.returns
returns c = λ of judges known has old. c.loop-item.invariant of judges known has
    (c.in_ok-push.ensures of known (subst (λ (is : List WorldItem). HasBody of (scope_syntax c.args.scope.now) (world_items is)) (sym c.deref.ensures.value) (a_world c.args.decl.now has.among has.there)) old)
