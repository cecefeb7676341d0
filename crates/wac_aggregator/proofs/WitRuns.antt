-- What is answered to a WIT list.
use Rattle.std.proofs.Common.{◌≡◌, ◌≢◌, ◌+◌, ℕ, suc, List, [], ◌∷◌, ◌++◌, Some, Contains, take, slice_get, add-one, ap, sym, ◌∙◌, subst}
use Rattle.std.proofs.lemmas.List.Elements.{All-append, All-cons, All-nil}
use Rattle.std.proofs.lemmas.Option.{slice_get_within}
use Rattle.wac_aggregator_promises.specs.Aggregated.{track_imports}
use Rattle.wac_aggregator_promises.specs.Answer.{ImportTrees, accepted, IsFirstRefused, IsWitAnswer}
use Rattle.wac_aggregator_promises.specs.Call.{Call, IsSoundCall, AreSoundCalls}
use Rattle.wac_aggregator_promises.specs.Compatible.{IsCompatibleWitList}
use Rattle.wac_aggregator_promises.specs.PlainList.{IsPlain}
use Rattle.wac_aggregator_promises.specs.WitList.{IsWitList}
use Rattle.wac_aggregator_promises.specs.WitRun.{IsWitRefusal, all_accepted}
use Rattle.wac_aggregator_promises.proofs.Among.{among_take, wit_list_fewer}
use Rattle.wac_aggregator_promises.proofs.WitStates.{state_compatible, not_refused, wit_runs_answer}
use Rattle.wac_aggregator_imports.specs.Import.{AreFiled}
use Rattle.wac_aggregator_errors.specs.declared.error.AggregateError.{AggregateError}
use Rattle.wac_aggregator_errors.specs.declared.error.AggregateError.TheVariants.{Memory}
use Rattle.wac_aggregator_errors.proofs.Saying.{says_why}
use Rattle.wac_aggregator_taking.specs.Refused.{HasReason}
use Rattle.wac_aggregator_taking.specs.Takes.{MayTake, shared_in}
use Rattle.wac_aggregator_taking.specs.declared.state.Merging.{Merging}
use Rattle.wac_aggregator.specs.Advances.{Advances, attempt_at, CallHasNoMeet}
use Rattle.wac_aggregator.specs.Content.{shown, content_of}
use Rattle.wac_aggregator.specs.HandedIn.{IsOneOf}
use Rattle.wac_aggregator.specs.Served.{AreCallsServed}
use Rattle.wac_aggregator.specs.Wit.{IsWitAfter, trees_of}
use Rattle.wac_aggregator.proofs.Listing.{take-next, Contains-at}
use Rattle.wac_aggregator.proofs.Plain.{track_import}
use Rattle.wac_aggregator.proofs.Wit.{wit_state}
use Rattle.wac_aggregator.proofs.WitNext.{TakesInNamed, wit_next}
use Rattle.wac_aggregator.proofs.WitRefused.{RefusesNamed, wit_refused}

-- all were accepted
pub wit_accepted : (calls : List Call) (a : Merging) → IsWitList calls → AreSoundCalls calls → AreFiled a.imports → AreCallsServed calls calls a → IsWitAfter calls calls a → IsWitAnswer calls (accepted (track_imports (shown (content_of a))))
wit_accepted calls a wit sound filed served w =
    subst (λ (is : ImportTrees). IsWitAnswer calls (accepted is)) (λ i t. sym (track_import a t filed) i)
    (wit_runs_answer calls (accepted (trees_of a)) wit sound (all_accepted a.types (shared_in a.shared.entries) (trees_of a) (wit_state calls calls a wit filed served w)))

-- those before this one were, and this one is refused
module _ (calls : List Call) (at : ℕ) (call : Call) (is : slice_get calls at ≡ Some call) (wit : IsWitList calls) where
  so_far : take (at + 1) calls ≡ take at calls ++ call ∷ []
  so_far = ap (λ n. take n calls) (add-one at) ∙ take-next calls at call is

  pub so_far_wit : IsWitList (take at calls ++ call ∷ [])
  so_far_wit = wit_list_fewer (take at calls ++ call ∷ []) calls (λ c m. among_take (at + 1) calls c (subst (λ l. Contains l c) (sym so_far) m)) wit

  pub front_wit : IsWitList (take at calls)
  front_wit = wit_list_fewer (take at calls) calls (λ c m. among_take at calls c m) wit

  pub wit_refused_at : (a : Merging) → AreSoundCalls (take at calls ++ call ∷ []) → AreFiled a.imports → AreCallsServed calls (take at calls) a → IsWitAfter calls (take at calls) a → IsWitRefusal (take at calls) call a.types (trees_of a) → IsFirstRefused IsCompatibleWitList calls at
  wit_refused_at a sound filed served w refusal =
      let state = wit_state calls (take at calls) a front_wit filed served w in
      record {
        is_call = slice_get_within calls at call is;
        before = state_compatible (take at calls) a.types (shared_in a.shared.entries) (trees_of a) front_wit state;
        with_it = λ k. not_refused (take at calls) call a.types (shared_in a.shared.entries) (trees_of a) so_far_wit sound (subst IsCompatibleWitList so_far k) state refusal;
      }

-- one call more
pub one_more_sound : (calls : List Call) (at : ℕ) (call : Call) → slice_get calls at ≡ Some call → AreSoundCalls (take at calls) → IsSoundCall call → AreSoundCalls (take (suc at) calls)
one_more_sound calls at call is h one = subst AreSoundCalls (sym (take-next calls at call is)) (All-append IsSoundCall (take at calls) (call ∷ []) h (All-cons IsSoundCall call [] one (All-nil IsSoundCall)))

pub one_more_wit : (calls : List Call) (at : ℕ) (call : Call) (is : slice_get calls at ≡ Some call) (wit : IsWitList calls) (a b : Merging) → IsOneOf calls call.types → MayTake call.types a → IsSoundCall call → AreFiled a.imports → AreFiled b.imports → AreCallsServed calls (take at calls) a → Advances call a b → TakesInNamed call a b
    → IsWitAfter calls (take at calls) a → IsWitAfter calls (take (suc at) calls) b
one_more_wit calls at call is wit a b one may sound filed_a filed_b served h take_in w =
    subst (λ front. IsWitAfter calls front b) (sym (take-next calls at call is))
    (wit_next calls (take at calls) call (so_far_wit calls at call is wit) a b (Contains-at calls at call is) one may sound filed_a filed_b served w h take_in)

-- the call at an index is refused
pub one_refused : (calls : List Call) (at : ℕ) (call : Call) (is : slice_get calls at ≡ Some call) (wit : IsWitList calls) (a : Merging) → AreSoundCalls (take at calls) → IsSoundCall call → IsOneOf calls call.types → AreFiled a.imports → AreCallsServed calls (take at calls) a → IsWitAfter calls (take at calls) a
    → (e : AggregateError) → e ≢ Memory → HasReason (attempt_at call a) e → (IsPlain call.types call.kind → CallHasNoMeet call a) → RefusesNamed call a e → IsFirstRefused IsCompatibleWitList calls at
one_refused calls at call is wit a sound one_sound one filed served w e ne reason plain named =
    let longer = so_far_wit calls at call is wit in
    let all = subst AreSoundCalls (take-next calls at call is) (one_more_sound calls at call is sound one_sound) in
    let r = says_why e ne in
    wit_refused_at calls at call is wit a all filed served w (wit_refused calls (take at calls) call a longer all one filed served w e r.0 r.1 reason plain named)
