use Rattle.std.proofs.Common.{◌≡◌, drop, take}
use Rattle.wac_aggregator_promises.specs.Aggregated.{track_imports}
use Rattle.wac_aggregator_promises.specs.Answer.{CallsAnswer}
use Rattle.wac_aggregator_promises.specs.Call.{AreSoundCalls}
use Rattle.wac_aggregator_promises.specs.Holding.{HoldsReached}
use Rattle.wac_aggregator_promises.specs.PlainList.{IsPlainList}
use Rattle.wac_aggregator_promises.specs.PlainRun.{IsPlainRun, no_import_trees}
use Rattle.wac_aggregator.specs.Content.{shown, content_of}
use Rattle.wac_aggregator.specs.HandedIn.{handed_in}
use Rattle.wac_aggregator.specs.InOrder.{IsMergingInOrder}
use Rattle.wac_aggregator.specs.Served.{AreCallsServed}
use Rattle.wac_aggregator.specs.Wit.{IsWitAfter}
use Rattle.wac_aggregator_promises.specs.WitList.{IsWitList}
use Rattle.wac_aggregator.proofs.all.aggregate_all.Given as goal

abbrev pub invariant-loop-at : goal.invariant-loop-at
invariant-loop-at l = record {
  order : IsMergingInOrder l.state;
  number : l.state.types.number ≡ l.number;
  runs : IsPlainList (handed_in l.calls) → (x : CallsAnswer) → IsPlainRun l.at (track_imports (shown (content_of l.state))) (drop l.at (handed_in l.calls)) x → IsPlainRun 0 no_import_trees (handed_in l.calls) x;
  served : AreCallsServed (handed_in l.calls) (take l.at (handed_in l.calls)) l.state;
  held : HoldsReached (take l.at (handed_in l.calls)) l.state.types;
  sound : AreSoundCalls (take l.at (handed_in l.calls));
  wit : IsWitList (handed_in l.calls) → IsWitAfter (handed_in l.calls) (take l.at (handed_in l.calls)) l.state;
}
