-- Why a call is refused that comes after others.
use Rattle.std.specs.Prelude.{◌≡◌, ℕ, List}
use Rattle.wac_aggregator_promises.specs.Aggregated.{Aggregated, IsAggregated, IsByTrack, track_imports}
use Rattle.wac_aggregator_promises.specs.Attempt.{single_attempt}
use Rattle.wac_aggregator_promises.specs.Call.{Call, call_track}
use Rattle.wac_aggregator_promises.specs.Holding.{HoldsReached}
use Rattle.wac_aggregator_errors.specs.declared.error.AggregateError.{AggregateError}
use Rattle.wac_aggregator_taking.specs.Refused.{HasReason}

-- there is reason to refuse the call, with some collection of this number, and imports
-- that serve the calls before it; the collection holds no interface on another track than those
-- of interfaces that their items openly reach
pub record HasReasonAfter (number : ℕ) (front : List Call) (call : Call) (e : AggregateError) : Type 0 where
  pub before : Aggregated
  pub number_is : before.types.number ≡ number
  pub aggregated : IsAggregated front before
  pub by_track : IsByTrack before
  pub held : HoldsReached front before.types
  pub reason : HasReason (single_attempt before.types (track_imports before (call_track call)) call) e
