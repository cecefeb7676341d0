use Rattle.std.proofs.Common.{List, sym, subst, arith}
use Rattle.wac_aggregator.specs.HandedIn.{called, handed_in}
use Rattle.wac_aggregator.specs.declared.all.Call.{Call as Handed}
use Rattle.wac_aggregator_promises.specs.Call.{Call}
use Rattle.wac_script_session.specs.Calls.{AreCallsIn}
use Rattle.wac_script_session.proofs.Handed.{AreCallsIn-push}
use Rattle.wac_script_session.proofs.aggregates.calls_of.Goals as goal

pub loop-call-init : goal.loop-call-init
loop-call-init c = subst (λ (calls : List Handed). AreCallsIn c.args.collections.now (handed_in calls)) (sym c.in_ok-found.ensures.items) (λ d m. absurd (omega (arith, m.1)))

pub loop-call-preserved : goal.loop-call-preserved
loop-call-preserved c =
    subst (λ (calls : List Call). AreCallsIn c.args.collections.now calls) (sym c.in_ok-push_call-in-Ok.ensures)
    (AreCallsIn-push c.args.collections.now (handed_in c.loop-call.found.items) (called c.in-Ok.call) c.loop-call.invariant c.in-Ok.ensures)
