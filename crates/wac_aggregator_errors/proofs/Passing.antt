-- Errors that are passed on.
use Rattle.std.proofs.Common.{◌≡◌, Result, Ok, Err, sym, subst}
use Rattle.std.specs.Result.{IsErr, IsErrAnd, IfErr, MatchResult}
use Rattle.wac_aggregator_errors.specs.declared.error.AggregateError.{AggregateError}

-- an error that is passed on
pub passed_on : {X : Type 0} (r : Result X AggregateError) (P : X → Type 0) (Q : AggregateError → Type 0) (e : AggregateError) → IsErr r × IsErrAnd r (λ y. y ≡ e) → Q e → MatchResult r P Q
passed_on (Ok x) P Q e h q = absurd h.1
passed_on (Err y) P Q e h q = subst Q (sym h.1) q

pub error_passed_on : {X : Type 0} (r : Result X AggregateError) (Q : AggregateError → Type 0) (e : AggregateError) → IsErr r × IsErrAnd r (λ y. y ≡ e) → Q e → IfErr r Q
error_passed_on (Ok x) Q e h q = tt
error_passed_on (Err y) Q e h q = subst Q (sym h.1) q
