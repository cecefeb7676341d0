use Rattle.std.proofs.Common.{◌∙◌, ap, refl, subst, sym}
use Rattle.std.specs.Prelude.{Vec}
use Rattle.std.specs.declared.alloc.Global.{Global}
use Rattle.wac_wit_refusals_types.specs.NamesTwice.{TakesExportName, an_exported}
use Rattle.wac_wit_refusals_sites.specs.Sites.{world_items}
use Rattle.wac_wit_refusals_types.specs.TypeSteps.{AreTaken}
use Rattle.wac_wit_refusals_types.specs.declared.taken_names.TakenName.{TakenName}
use Rattle.wac_wit_refusals_types.proofs.TwiceFacts.{taken_push}
use Rattle.wac_wit_refusals_sites.proofs.TypeFacts.{at_read, none_among}
use Rattle.wac_wit_refusals_types.proofs.taken_names.world_export_names.Goals.{in-Export+in-Some+in_ok-push, in_default}
use Rattle.wac_wit_refusals_types.proofs.taken_names.world_export_names.Goals as goal

pub loop-index-preserved : goal.loop-index-preserved
loop-index-preserved c of knows =
    let items = c.args.items.now in
    let before = c.loop-index.invariant of knows in
    elim c.match-item.branch [
      | in-Export+in-Some+in_ok-push w ↦ taken_push (TakesExportName of (world_items items)) c.loop-index.names.items c.match-item.names.items _ _ _ w.of_item.ensures.item w.of_item.ensures.part w.of_item.ensures.name (ap (λ (v : Vec TakenName Global). v.items) w.names-is ∙ w.in_ok-push.ensures.items) before
          (an_exported items c.loop-index.index w.in-Export.it w.in-Some.name.now refl (at_read items c.loop-index.index c.index-items-index.result _ c.loop-index-test.true c.index-items-index.is w.in-Export.is) (w.in-Some.ensures.there of knows) w.in-Some.ensures.has)
      | in_default w ↦ subst (λ (v : Vec TakenName Global). AreTaken (TakesExportName of (world_items items)) v.items) (sym w.names-is) before
    ]

pub loop-index-init : goal.loop-index-init
loop-index-init c of knows = none_among (λ (n : TakenName). TakesExportName of (world_items c.args.items.now) n.item n.part n.name.now) c.new-names.result.items c.new-names.ensures.items

pub returns : goal.returns
returns c = c.loop-index.invariant
