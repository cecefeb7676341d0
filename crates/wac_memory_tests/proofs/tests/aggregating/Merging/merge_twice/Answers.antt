use Rattle.wac_types.specs.HandedIn.{handed_in}
use Rattle.wac_memory_tests.proofs.CallLemmas.{AreCallsOf-aggregated}
use Rattle.wac_memory_tests.proofs.tests.aggregating.Merging.merge_twice.Goals as goal

pub merge-requires : goal.merge-requires
merge-requires c =
    rw c.deref.ensures.value (AreCallsOf-aggregated c.args.first.now c.args.second.now (handed_in c.in-Ok.calls.items) c.in-Ok.ensures)

pub merge-requires-in-Ok : goal.merge-requires-in-Ok
merge-requires-in-Ok c =
    rw c.deref-in-Ok.ensures.value (AreCallsOf-aggregated c.args.first.now c.args.second.now (handed_in c.in-Ok.calls.items) c.in-Ok.ensures)
