use Rattle.std.proofs.Common.{subst, sym}
use Rattle.std.specs.Prelude.{Vec}
use Rattle.std.specs.declared.alloc.Global.{Global}
use Rattle.wac_wit_refusals_types.specs.NamesTwice.{TakesName}
use Rattle.wac_wit_refusals_types.specs.TypeSteps.{AreTaken}
use Rattle.wac_wit_refusals_types.specs.declared.taken_names.TakenName.{TakenName}
use Rattle.wac_wit_refusals_sites.proofs.TypeFacts.{among_read}
use Rattle.wac_wit_refusals_types.proofs.taken_names.push_uses_names.Goals.{then-is_there+in_ok-push_used_names, else-is_there}
use Rattle.wac_wit_refusals_types.proofs.taken_names.push_uses_names.Goals as goal

pub loop-placed-preserved : goal.loop-placed-preserved
loop-placed-preserved c of b knows uses all =
    let placed = c.placed-item.result in
    let at = uses.at placed (among_read c.args.uses.now c.loop-placed.placed-index placed c.loop-placed-test.true c.placed-item.is) in
    elim c.if-is_there.branch [
      | then-is_there+in_ok-push_used_names w ↦ subst (λ (v : Vec TakenName Global). AreTaken (TakesName of b) v.items) (sym w.names-is)
          (w.in_ok-push_used_names.ensures of b (record { used = placed.used.now; at = at; there = (c.is_there.ensures of knows).0 w.if-is_there.true; same = sym w.deref.ensures.value }) (c.loop-placed.invariant of b knows uses all))
      | else-is_there w ↦ subst (λ (v : Vec TakenName Global). AreTaken (TakesName of b) v.items) (sym w.names-is) (c.loop-placed.invariant of b knows uses all)
    ]

pub returns : goal.returns
returns c = c.loop-placed.invariant
