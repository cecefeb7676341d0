use Rattle.std.proofs.Common.{◌+◌, subst, sym}
use Rattle.std.proofs.lemmas.Option.{MatchOption-at_some}
use Rattle.std.specs.Prelude.{Vec}
use Rattle.std.specs.declared.alloc.Global.{Global}
use Rattle.wac_wit_refusals_worlds.specs.declared.worlds.PlacedWorld.{PlacedWorld}
use Rattle.wac_wit_refusals_worlds.proofs.WorldFacts.{PutsFirst, nothing_else, puts_all, puts_more, puts_none, puts_skip}
use Rattle.wac_wit_refusals_worlds.proofs.worlds.+push_within.Goals.{in-Some+in_ok-inner+in-Some-2+in_ok-push_within+else-not-branch, in_default}
use Rattle.wac_wit_refusals_worlds.proofs.worlds.+push_within.Goals as goal

pub loop-item-init : goal.loop-item-init
loop-item-init t c of knows = puts_none of c.args.world.now c.args.worlds.now.items _ c.in_ok-push.ensures.items

pub loop-item-preserved : goal.loop-item-preserved
loop-item-preserved t c of knows =
    let world = c.args.world.now in
    let index = c.loop-item.item-index in
    let before = c.loop-item.invariant of knows in
    elim c.match-include_there.branch [
      | in-Some+in_ok-inner+in-Some-2+in_ok-push_within+else-not-branch w ↦ subst (λ (v : Vec PlacedWorld Global). PutsFirst of world (index + 1) c.push.new.self.items v.items) (sym w.worlds-is)
          (puts_more of world index c.item-item.result _ _ _ c.loop-item-test.true c.item-item.is w.in-Some.include.now (w.in-Some.ensures.some of knows) w.in-Some-2.inner
          (MatchOption-at_some _ _ w.in-Some-2.inner w.in-Some-2.is w.in_ok-inner.ensures of knows) (w.in_ok-push_within.ensures w.if-not-branch.false of knows) before)
      | in_default w ↦ subst (λ (v : Vec PlacedWorld Global). PutsFirst of world (index + 1) c.push.new.self.items v.items) (sym w.worlds-is)
          (puts_skip of world index c.item-item.result _ _ c.loop-item-test.true c.item-item.is (c.include_there.ensures.none (nothing_else c.include_there.result w.in_default.not-Some) of knows) before)
    ]

pub returns : goal.returns
returns t c is of knows = puts_all of c.args.world.now c.loop-item.item-index c.args.worlds.now.items _ c.loop-item.worlds.items c.in_ok-push.ensures.items c.loop-item-test.false (c.loop-item.invariant of knows)
