-- What the items of calls openly reach, and what is openly reached at the start, are sources.
use Rattle.std.proofs.Common.{◌≡◌, refl, Contains}
use Rattle.wac_component.specs.Key.{Key, item_keys, Stands}
use Rattle.wac_component.specs.Reach.{IsAmong}
use Rattle.wac_component.proofs.Among.{among_each}
use Rattle.wac_aggregator_promises.specs.Attempt.{Sources, held, reached}
use Rattle.wac_aggregator_promises.specs.Call.{Call, IsSoundCall}
use Rattle.wac_aggregator_narrowing.specs.State.{State, IsStateKept}
use Rattle.wac_aggregator_reasons.specs.Roots.{IsSourceRoot}
use Rattle.wac_aggregator_reasons.specs.Sharing.{IsOpenRoot, AreHeld}
use Rattle.wac_aggregator_reasons.proofs.States.{root_stands}

pub call_root : (sources : Sources) (call : Call) (k : Key) → Contains sources.calls call → IsSoundCall call → IsAmong k (item_keys call.kind) → IsSourceRoot sources call.types k
call_root sources call k among is m = record {
  sound = is.sound;
  stands = among_each (Stands call.types) k (item_keys call.kind) m is.stands;
  leads_to = λ t w. reached call among refl (k, m, w);
}

pub start_root : (sources : Sources) (s : State) (k : Key) → sources.start ≡ s.own → IsStateKept s → AreHeld s → IsOpenRoot s k → IsSourceRoot sources s.own k
start_root sources s k start kept h r = record {
  sound = kept.good.sound;
  stands = root_stands s kept k r;
  leads_to = λ t w. held start (h.held k t r w);
}
