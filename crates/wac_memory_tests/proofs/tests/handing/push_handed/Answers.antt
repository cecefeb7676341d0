use Rattle.std.proofs.Common.{subst, sym}
use Rattle.wac_types.specs.HandedIn.{handed_in}
use Rattle.wac_memory_tests.specs.Calls.{AreCallsOf}
use Rattle.wac_memory_tests.proofs.CallLemmas.{AreCallsOf-push}
use Rattle.wac_memory_tests.proofs.tests.handing.push_handed.Goals as goal

pub returns : goal.returns
returns c =
    subst (AreCallsOf c.args.first.now c.args.second.now) (sym c.in_ok-push_call.ensures)
    (AreCallsOf-push c.args.first.now c.args.second.now (handed_in c.args.calls.now.items) _ c.requires.calls (record { found = c.numbered-types.ensures; stands = c.in-Ok.ensures }))
