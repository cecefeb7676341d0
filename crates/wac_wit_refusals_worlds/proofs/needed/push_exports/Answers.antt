use Rattle.std.proofs.Common.{Contains, sym, subst}
use Rattle.wac_wit_syntax.specs.declared.tree.WorldItem.{WorldItem}
use Rattle.wac_wit_refusals_sites.proofs.Walks.{among_at}
use Rattle.wac_wit_refusals_worlds.specs.NeededSteps.{AreNeeded}
use Rattle.wac_wit_refusals_worlds.specs.declared.needs.Reached.{Reached}
use Rattle.wac_wit_refusals_worlds.proofs.needed.push_exports.Goals as goal
use Rattle.wac_wit_refusals_worlds.proofs.needed.push_exports.Goals.{in-Some+in_ok-push_export, in_default}

pub loop-item-init : goal.loop-item-init
loop-item-init c = λ of judges n needs all. all

pub loop-item-preserved : goal.loop-item-preserved
loop-item-preserved c = λ of judges n needs all.
    let self = c.args.judge.now in
    let items = c.args.world.now.items.now in
    let before = c.loop-item.invariant of judges n needs all in
    elim c.match-export_there.branch [
      | in-Some+in_ok-push_export w ↦
          let export = w.in-Some.export.now in
          let is = w.in-Some.ensures of judges in
          let among = among_at items c.loop-item.item-index c.item-item.result c.loop-item-test.true c.item-item.is in
          subst (λ (r : Reached). AreNeeded of self n r.found.items) (sym w.needed-is)
          (w.in_ok-push_export.ensures of judges n (needs export (record { among = subst (λ (t : WorldItem). Contains items t) is.is among; there = is.there })) before)
      | in_default w ↦ subst (λ (r : Reached). AreNeeded of self n r.found.items) (sym w.needed-is) before
    ]

pub returns : goal.returns
returns c = c.loop-item.invariant
