use Rattle.std.proofs.Common.{◌∙◌, ap, subst, sym}
use Rattle.std.specs.Prelude.{Vec}
use Rattle.std.specs.declared.alloc.Global.{Global}
use Rattle.wac_wit_refusals_types.specs.NamesTwice.{TakesName, a_defined}
use Rattle.wac_wit_refusals_types.specs.TypeSteps.{AreTaken}
use Rattle.wac_wit_refusals_types.specs.declared.taken_names.TakenName.{TakenName}
use Rattle.wac_wit_refusals_types.proofs.TwiceFacts.{taken_push}
use Rattle.wac_wit_refusals_sites.proofs.TypeFacts.{among_read}
use Rattle.wac_wit_refusals_types.proofs.taken_names.push_type_names.Goals.{then-is_there+in_ok-push, else-is_there}
use Rattle.wac_wit_refusals_types.proofs.taken_names.push_type_names.Goals as goal

pub loop-placed-preserved : goal.loop-placed-preserved
loop-placed-preserved c of b knows types all =
    let placed = c.placed-item.result in
    let at = types.at placed (among_read c.args.types.now c.loop-placed.placed-index placed c.loop-placed-test.true c.placed-item.is) in
    elim c.if-is_there.branch [
      | then-is_there+in_ok-push w ↦ taken_push (TakesName of b) c.loop-placed.names.items c.if-is_there.names.items _ _ _ w.of_item.ensures.item w.of_item.ensures.part w.of_item.ensures.name (ap (λ (v : Vec TakenName Global). v.items) w.names-is ∙ w.in_ok-push.ensures.items) (c.loop-placed.invariant of b knows types all)
          (a_defined placed.item placed.ty.now at ((c.is_there.ensures of knows).0 w.if-is_there.true))
      | else-is_there w ↦ subst (λ (v : Vec TakenName Global). AreTaken (TakesName of b) v.items) (sym w.names-is) (c.loop-placed.invariant of b knows types all)
    ]

pub returns : goal.returns
returns c = c.loop-placed.invariant
