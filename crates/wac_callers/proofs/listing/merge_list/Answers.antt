-- What `aggregate_all` ensures of WIT lists, by the law that answers are exact.
use Rattle.std.proofs.Common.{◌≢◌, List, Result, Ok, Err, IfOk, MatchResult}
use Rattle.wac_types.specs.Aggregated.{AllAreServed, IsAggregated, track_imports}
use Rattle.wac_types.specs.Aggregator.{AggregatorContent, shown}
use Rattle.wac_types.specs.Answer.{accepted, refused, IsWitAnswer}
use Rattle.wac_types.specs.Call.{Call}
use Rattle.wac_types.specs.Compatible.{IsCompatibleWitList}
use Rattle.wac_types.specs.HandedIn.{handed_in}
use Rattle.wac_types.specs.ListLaws.{AnswersAreExact}
use Rattle.wac_types.specs.declared.AggregateAllError.{AggregateAllError}
use Rattle.wac_types.specs.declared.AggregateError.TheVariants.{Memory}
use Rattle.wac_callers.proofs.listing.merge_list.Goals as goal

served : (calls : List Call) (r : Result AggregatorContent AggregateAllError) → IfOk r (λ a. IsAggregated calls (shown a)) → IfOk r (λ a. AllAreServed calls (shown a))
served calls (Ok a) h = h.served
served calls (Err e) h = tt

exact : (law : AnswersAreExact) (calls : List Call) (r : Result AggregatorContent AggregateAllError)
    → MatchResult r (λ a. IsWitAnswer calls (accepted (track_imports (shown a)))) (λ e. e.error ≢ Memory → IsWitAnswer calls (refused e.at))
    → MatchResult r (λ a. IsCompatibleWitList calls) (λ e. e.error ≢ Memory → IsCompatibleWitList calls → ⊥)
exact law calls (Ok a) h = h.0
exact law calls (Err e) h = λ other compatible. (law.wit calls (refused e.at) (h other)).1 compatible

pub returns-clause-served : goal.returns-clause-served
returns-clause-served c = served (handed_in c.args.calls.now) c.aggregate_all.result c.aggregate_all.ensures.aggregated

pub returns-clause-wit : goal.returns-clause-wit
returns-clause-wit c = λ wit. exact c.answers_are_exact.ensures (handed_in c.args.calls.now) c.aggregate_all.result (c.aggregate_all.ensures.wit wit)
