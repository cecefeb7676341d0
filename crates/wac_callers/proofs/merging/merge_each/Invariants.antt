use Rattle.std.proofs.Common.{◌≡◌, Contains, take}
use Rattle.wac_types.specs.Aggregated.{LeadsBelow}
use Rattle.wac_types.specs.Aggregator.{shown, state_in}
use Rattle.wac_types.specs.Call.{Call, call_tree}
use Rattle.wac_types.specs.Class.{class_of}
use Rattle.wac_types.specs.HandedIn.{handed_in}
use Rattle.wac_types.specs.Remembers.{RemembersTruly}
use Rattle.wac_callers.proofs.merging.merge_each.Given as goal

abbrev pub invariant-loop-call : goal.invariant-loop-call
invariant-loop-call l = record {
  number : l.merged.types.number ≡ l.number;
  truly : (c : Call) → Contains (handed_in l.calls) c → RemembersTruly class_of c.types (state_in l.merged);
  served : (c : Call) → Contains (take l.call-index (handed_in l.calls)) c → LeadsBelow (shown l.merged) c.name (call_tree c);
}
