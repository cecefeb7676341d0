-- Lists of WIT interfaces that were accepted are compatible, and those with a refused call aren't.
use Rattle.std.proofs.Common.{◌≡◌, inl, inr, refl, subst, sym, arith, List, [], ◌∷◌, ◌++◌, length, Option, Some, None, IsSome, Contains}
use Rattle.std.proofs.lemmas.List.{length-append}
use Rattle.wac_model.specs.ItemTree.{ItemTree}
use Rattle.wac_component.specs.Id.{Id}
use Rattle.wac_component.specs.Collection.{Collection}
use Rattle.wac_names.specs.Class.{Class}
use Rattle.wac_aggregator_promises.specs.Answer.{ImportTrees, IsFirstRefused}
use Rattle.wac_aggregator_promises.specs.Call.{Call, AreSoundCalls}
use Rattle.wac_aggregator_promises.specs.Compatible.{IsCompatibleWitList}
use Rattle.wac_aggregator_promises.specs.Due.{of_name}
use Rattle.wac_aggregator_promises.specs.Laws.{WitRunsAnswer}
use Rattle.wac_aggregator_promises.specs.Reason.{kinds, mismatch, no_identifier, owner_without_identifier, taken}
use Rattle.wac_aggregator_promises.specs.Shared.{SharedEntries}
use Rattle.wac_aggregator_promises.specs.TreeSets.{HaveLowerBound}
use Rattle.wac_aggregator_promises.specs.WitList.{IsMember, IsPlainTree, IsWitList}
use Rattle.wac_aggregator_promises.specs.WitRun.{IsWitState, IsWitRefusal, by_kinds, by_import, by_use, by_owner, by_taking, by_cycle, by_member, all_accepted, one_refused}
use Rattle.wac_aggregator_promises.proofs.Among.{among_front, among_middle, sound_fewer, wit_list_fewer, take_front, take_with}
use Rattle.wac_aggregator_promises.proofs.PlainRuns.{some_tree}
use Rattle.wac_aggregator_promises.proofs.SharedMembers.{members_bound, uses_alike, no_track_cycle, can_take}
use Rattle.wac_aggregator_promises.proofs.WitReasons.{no_reason}

module _ (calls : List Call) (own : Collection) (shared : SharedEntries) (imports : ImportTrees) (wit : IsWitList calls) (state : IsWitState calls own shared imports) where
  plain_bound : (t : Class) (o : Option ItemTree) → imports t ≡ o → HaveLowerBound (IsPlainTree calls t)
  plain_bound t (Some m) e = (m, λ x k. (state.meets.meets t m e).is_below x (inr k))
  plain_bound t None e = (some_tree, λ x k. absurd (none ((state.meets.due t).0 (of_name k.call k.is_on))))
    where
      none : IsSome (imports t) → ⊥
      none s = let f = subst (λ (o : Option ItemTree). IsSome o) e s in cc f

  all_taken : (c : Collection) (i : Id) → IsMember calls c i → Contains state.taken (c, i)
  all_taken c i = (state.members c i).0

  pub state_compatible : IsCompatibleWitList calls
  state_compatible = record {
    members = members_bound calls state.taken own shared wit state.kept all_taken;
    plain_items = λ t. plain_bound t (imports t) refl;
    uses = uses_alike calls state.taken own shared wit state.kept all_taken;
    no_cycle = no_track_cycle calls state.taken own shared wit state.kept all_taken;
  }

module _ (front : List Call) (call : Call) (own : Collection) (shared : SharedEntries) (imports : ImportTrees)
    (wit : IsWitList (front ++ call ∷ [])) (sound : AreSoundCalls (front ++ call ∷ [])) (compatible : IsCompatibleWitList (front ++ call ∷ [])) (state : IsWitState front own shared imports) where
  abbrev calls : List Call
  calls = front ++ call ∷ []

  -- what the table says of the item and the import alone stands at either attempt
  pub not_refused : IsWitRefusal front call own imports → ⊥
  not_refused (by_kinds e f r) = no_reason front call imports wit sound compatible state.meets (kinds e f) record { tree = r.tree; stood = r.stood; differ = r.differ; existing_desc = r.existing_desc; found_desc = r.found_desc }
  not_refused (by_import r) = no_reason front call imports wit sound compatible state.meets mismatch (inl record { tree = r.tree; stood = r.stood; no_bound = r.no_bound })
  not_refused (by_use n r) = no_reason front call imports wit sound compatible state.meets (no_identifier n) record { key = r.key; content = r.content; reached = r.reached; has = r.has; unidentified = r.unidentified }
  not_refused (by_owner n r) = no_reason front call imports wit sound compatible state.meets (owner_without_identifier n)
      record { resource = r.resource; entry = r.entry; owner = r.owner; reached = r.reached; is_at = r.is_at; named = r.named; owned = r.owned; unidentified = r.unidentified }
  not_refused (by_taking n r) = no_reason front call imports wit sound compatible state.meets (taken n)
      record { none_stood = r.none_stood; resource = r.resource; owner = r.owner; reached = r.reached; owned = r.owned; is_on = r.is_on; named = r.named }
  not_refused (by_cycle t r) = compatible.no_cycle t r
  not_refused (by_member some now entries c i kept members member cannot) = can_take calls some now entries wit kept members c i member compatible cannot

pub wit_runs_answer : WitRunsAnswer
wit_runs_answer calls _ wit sound (all_accepted own shared imports state) = (state_compatible calls own shared imports wit state, state.meets)
wit_runs_answer calls _ wit sound (one_refused front call back own shared imports e state refusal) =
    subst (λ (l : List Call). IsFirstRefused IsCompatibleWitList l (length front)) (sym e) record {
      is_call = omega (arith, length-append front (call ∷ back));
      before = subst (λ (l : List Call). IsCompatibleWitList l) (sym (take_front front (call ∷ back))) (state_compatible front own shared imports front_wit state);
      with_it = λ k. not_refused front call own shared imports with_wit with_sound (subst (λ (l : List Call). IsCompatibleWitList l) (take_with front call back) k) state refusal;
    }
  where
    wit' : IsWitList (front ++ call ∷ back)
    wit' = subst (λ (l : List Call). IsWitList l) e wit

    front_wit : IsWitList front
    front_wit = wit_list_fewer front (front ++ call ∷ back) (among_front front (call ∷ back)) wit'

    with_wit : IsWitList (front ++ call ∷ [])
    with_wit = wit_list_fewer (front ++ call ∷ []) (front ++ call ∷ back) (among_middle front call back) wit'

    with_sound : AreSoundCalls (front ++ call ∷ [])
    with_sound = sound_fewer (front ++ call ∷ []) (front ++ call ∷ back) (among_middle front call back) (subst (λ (l : List Call). AreSoundCalls l) e sound)
