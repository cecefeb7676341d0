use Rattle.std.proofs.Common.{◌∙◌, ap, refl, subst, sym}
use Rattle.std.specs.Prelude.{Vec}
use Rattle.std.specs.declared.alloc.Global.{Global}
use Rattle.wac_wit_refusals_types.specs.NamesTwice.{TakesName, a_function}
use Rattle.wac_wit_refusals_sites.specs.Sites.{interface_items}
use Rattle.wac_wit_refusals_types.specs.TypeSteps.{AreTaken}
use Rattle.wac_wit_refusals_types.specs.declared.taken_names.TakenName.{TakenName}
use Rattle.wac_wit_refusals_types.proofs.TwiceFacts.{taken_push}
use Rattle.wac_wit_refusals_sites.proofs.TypeFacts.{at_read}
use Rattle.wac_wit_refusals_types.proofs.taken_names.push_func_names.Goals.{in-Func+then-is_there+in_ok-push, in_default}
use Rattle.wac_wit_refusals_types.proofs.taken_names.push_func_names.Goals as goal

pub loop-index-preserved : goal.loop-index-preserved
loop-index-preserved c of knows all =
    let items = c.args.items.now in
    elim c.match-item.branch [
      | in-Func+then-is_there+in_ok-push w ↦ taken_push (TakesName of (interface_items items)) c.loop-index.names.items c.match-item.names.items _ _ _ w.of_item.ensures.item w.of_item.ensures.part w.of_item.ensures.name (ap (λ (v : Vec TakenName Global). v.items) w.names-is ∙ w.in_ok-push.ensures.items) (c.loop-index.invariant of knows all)
          (a_function items c.loop-index.index w.in-Func.it refl (at_read items c.loop-index.index c.index-items-index.result _ c.loop-index-test.true c.index-items-index.is w.in-Func.is) ((w.is_there.ensures of knows).0 w.if-is_there.true))
      | in_default w ↦ subst (λ (v : Vec TakenName Global). AreTaken (TakesName of (interface_items items)) v.items) (sym w.names-is) (c.loop-index.invariant of knows all)
    ]

pub returns : goal.returns
returns c = c.loop-index.invariant
