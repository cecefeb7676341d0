use Rattle.std.proofs.Common.{refl, sym, subst}
use Rattle.wac_types.specs.HandedIn.{handed_in}
use Rattle.wac_composition.specs.Calls.{AreCallsOf}
use Rattle.wac_composition.proofs.Handing.{AreCallsOf-push}
use Rattle.wac_composition.proofs.merging.push_remaining.Goals as goal

pub loop-name-preserved-in_ok-push_call : goal.loop-name-preserved-in_ok-push_call
loop-name-preserved-in_ok-push_call c =
    subst (AreCallsOf c.args.graph.now) (sym c.in_ok-push_call.ensures)
    (AreCallsOf-push c.args.graph.now (handed_in c.loop-name.calls.items) _ c.loop-name.invariant (record { found = c.requires.component; stands = c.if-not-contains_item.ensures.0 refl }))
