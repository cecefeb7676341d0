use Rattle.std.proofs.Common.{◌∙◌, Contains, ap, subst, sym}
use Rattle.std.specs.Prelude.{Vec}
use Rattle.std.specs.declared.alloc.Global.{Global}
use Rattle.wac_wit_scopes.specs.Scopes.{scope_syntax}
use Rattle.wac_wit_syntax.specs.declared.tree.WorldItem.{WorldItem}
use Rattle.wac_wit_refusals_worlds.specs.NeededSteps.{AreExportsIn}
use Rattle.wac_wit_refusals_worlds.specs.NeededTwice.{HasExport}
use Rattle.wac_wit_refusals_worlds.specs.declared.exports.PlacedExport.{PlacedExport}
use Rattle.wac_wit_refusals_sites.proofs.TypeFacts.{kept_push}
use Rattle.wac_wit_refusals_sites.proofs.Walks.{among_at}
use Rattle.wac_wit_refusals_worlds.proofs.exports.push_exports_of.Goals.{in-Some+in_ok-push, in_default}
use Rattle.wac_wit_refusals_worlds.proofs.exports.push_exports_of.Goals as goal

pub loop-item-init : goal.loop-item-init
loop-item-init c of knows w within all = all

pub loop-item-preserved : goal.loop-item-preserved
loop-item-preserved c of knows w within all =
    let items = c.args.world.now.items.now in
    let before = c.loop-item.invariant of knows w within all in
    elim c.match-export_there.branch [
      | in-Some+in_ok-push m ↦
          let is = m.in-Some.ensures of knows in
          let among = among_at items c.loop-item.item-index c.item-item.result c.loop-item-test.true c.item-item.is in
          kept_push (λ (x : PlacedExport). HasExport of (scope_syntax w.scope) w.items.now (scope_syntax x.scope) x.item.now) c.loop-item.exports.items c.match-export_there.exports.items _ (ap (λ (v : Vec PlacedExport Global). v.items) m.exports-is ∙ m.in_ok-push.ensures.items) before
          (record { items = items; within = within; there = record { among = subst (λ (t : WorldItem). Contains items t) is.is among; there = is.there } })
      | in_default m ↦ subst (λ (v : Vec PlacedExport Global). AreExportsIn of w v.items) (sym m.exports-is) before
    ]

pub returns : goal.returns
returns c = c.loop-item.invariant
