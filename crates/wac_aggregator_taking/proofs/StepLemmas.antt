-- Steps, one after another.
use Rattle.std.proofs.Common.{◌≡◌, ◌≤◌, ◌⊎◌, ◌++◌, ℕ, inl, inr, List, [], ◌∷◌, All, Option, Some, None, IfSome, Result, Ok, Err, refl, ap, sym, subst, ◌∙◌, arith}
use Rattle.std.specs.Option.{option_to_list}
use Rattle.std.specs.Result.{MatchResult, OnOk}
use Rattle.std.proofs.lemmas.List.Elements.{All-append, All-cons, All-head, All-nil, All-pop, All-weaker}
use Rattle.wac_component.specs.Collection.{Collection}
use Rattle.wac_component.specs.Height.{height, keys_height}
use Rattle.wac_component.specs.Id.{Id}
use Rattle.wac_component.specs.Key.{Key, Stands, AllStand, interface_key}
use Rattle.wac_component.specs.Open.{OpenReaches, stay}
use Rattle.wac_component.specs.Reach.{IsAmong, here, there}
use Rattle.wac_component.specs.Sound.{IsSound}
use Rattle.wac_component.proofs.Among.{among_each, among_single}
use Rattle.wac_component.proofs.OpenWalks.{opens_reach, opens_stand}
use Rattle.wac_aggregator_promises.specs.Attempt.{Attempt}
use Rattle.wac_aggregator_promises.specs.Entries.{ReachesByUses}
use Rattle.wac_aggregator_promises.specs.Shared.{TakenIds}
use Rattle.wac_aggregator_promises.specs.WitList.{AreWit}
use Rattle.wac_aggregator_promises.proofs.ByUses.{ByUses-trans, by_uses}
use Rattle.wac_names.specs.Class.{class_of}
use Rattle.wac_aggregator_narrowing.specs.Remembers.{RemembersTruly}
use Rattle.wac_aggregator_narrowing.specs.State.{State, IsStateKept, RunsTaking}
use Rattle.wac_aggregator_reasons.specs.Trial.{IsTrial, IsAccounted, StaysAccounted}
use Rattle.wac_aggregator_narrowing.proofs.Running.{RunsTaking-trans}
use Rattle.wac_aggregator_reasons.proofs.Accounts.{accounted_then}
use Rattle.wac_aggregator_reasons.proofs.SharedOrBelow.{adds_then}
use Rattle.wac_aggregator_errors.specs.declared.error.AggregateError.{AggregateError}
use Rattle.wac_aggregator_errors.specs.declared.error.AggregateError.TheVariants.{Memory}
use Rattle.wac_aggregator_errors.proofs.Saying.{not_memory}
use Rattle.wac_aggregator_taking.specs.Members.{HasTakenIn, HasAllOf, TakesMembers, IsMemberRefusal, AnswersMembers}
use Rattle.wac_aggregator_taking.specs.Refused.{IsRefusedBy, IsUnidentified}
use Rattle.wac_aggregator_taking.specs.Steps.{step_key, step_near, MayStep, IsReachedFrom, IsStepOf, ArePut, IsNext, AreNext, ImportsOnly, AreUnderWay, IsStepDue, AreRefusedFrom}
use Rattle.wac_aggregator_taking.specs.Takes.{state_of, MayTake, IsNear, near_keys, AreNear, AreWithin, OpenlyFrom, OnlyGrows, TakesBy}
use Rattle.wac_aggregator_taking.specs.declared.state.Merging.{Merging}
use Rattle.wac_aggregator_taking.specs.declared.steps.TakeStep.{TakeStep}
use Rattle.wac_aggregator_taking.proofs.Alike.{opens_lower, IsNear-none, IsNear-Takes}
use Rattle.wac_aggregator_taking.proofs.Members.{wit_within, reached_closed, TakesMembers-none, TakesMembers-then, TakesMembers-within, TakesMembers-grown, member_refused_within, member_refused_after, member_refused_unidentified}
use Rattle.wac_aggregator_taking.proofs.Plain.{OnlyGrows-refl, OnlyGrows-trans, plain_within}
use Rattle.wac_aggregator_taking.proofs.TakeLemmas.{MayTake-Takes, Takes-none, owners_import_still, owners_import_within, shared_from_still, shared_from_within, known_within, known_still, near_none, near_still, trial_within}
use Rattle.wac_aggregator_taking.proofs.Within.{openly_within}

-- ---- what is put

-- steps about what an id openly reaches come next, with nothing near, or with what is near by what is
pub put_next : (f : Collection) (a : Merging) (k : Key) (near by : Option Id) (ks : List Key) (ss ts : List TakeStep) → ((j : Key) → IsAmong j ks → OpenReaches f k j) → IsNear a by
    → ((at : Attempt) → IsAccounted at (state_of a) → AreNear at a (near_keys near) → AreNear at a (near_keys by)) → ArePut ks by ss ts → AreNext f a k near ss ts
put_next f a k near by ks ss ts walks own opens h = record { more = h.more; put = h.put; steps = All-weaker (IsStepOf ks by) (IsNext f a k near) (λ s is. next s is is.by) h.more h.steps }
  where
    next : (s : TakeStep) → IsStepOf ks by s → (step_near s ≡ None) ⊎ (step_near s ≡ by) → IsNext f a k near s
    next s is (inl none) = record { walk = walks (step_key s) is.among; own = subst (IsNear a) (sym none) (IsNear-none a); by = λ at all h. subst (λ o. AreNear at a (near_keys o)) (sym none) (near_none at a) }
    next s is (inr same) = record { walk = walks (step_key s) is.among; own = subst (IsNear a) (sym same) own; by = λ at all h. subst (λ o. AreNear at a (near_keys o)) (sym same) (opens at all h) }

-- one step, and two
pub put_one : (ks : List Key) (near : Option Id) (ss ts : List TakeStep) (s : TakeStep) → ts ≡ ss ++ s ∷ [] → IsStepOf ks near s → ArePut ks near ss ts
put_one ks near ss ts s put is = record { more = s ∷ []; put = put; steps = All-cons (IsStepOf ks near) s [] is (All-nil (IsStepOf ks near)) }

pub put_two : (ks : List Key) (near : Option Id) (ss ts : List TakeStep) (s t : TakeStep) → ts ≡ ss ++ s ∷ t ∷ [] → IsStepOf ks near s → IsStepOf ks near t → ArePut ks near ss ts
put_two ks near ss ts s t put is also = record { more = s ∷ t ∷ []; put = put; steps = All-cons (IsStepOf ks near) s (t ∷ []) is (All-cons (IsStepOf ks near) t [] also (All-nil (IsStepOf ks near))) }

append_assoc : (xs ys zs : List TakeStep) → (xs ++ ys) ++ zs ≡ xs ++ (ys ++ zs)
append_assoc [] ys zs = refl
append_assoc (x ∷ xs) ys zs = ap (λ (vs : List TakeStep). x ∷ vs) (append_assoc xs ys zs)

append_none : (xs : List TakeStep) → xs ≡ xs ++ []
append_none [] = refl
append_none (x ∷ xs) = ap (λ (vs : List TakeStep). x ∷ vs) (append_none xs)

-- none
pub put_none : (ks : List Key) (near : Option Id) (ss : List TakeStep) → ArePut ks near ss ss
put_none ks near ss = record { more = []; put = append_none ss; steps = All-nil (IsStepOf ks near) }

pub next_none : (f : Collection) (a : Merging) (k : Key) (near : Option Id) (ss : List TakeStep) → AreNext f a k near ss ss
next_none f a k near ss = record { more = []; put = append_none ss; steps = All-nil (IsNext f a k near) }

-- some, and then some
pub put_then : (ks : List Key) (near : Option Id) (ss ts us : List TakeStep) → ArePut ks near ss ts → ArePut ks near ts us → ArePut ks near ss us
put_then ks near ss ts us g h = record {
  more = g.more ++ h.more;
  put = h.put ∙ ap (λ (vs : List TakeStep). vs ++ h.more) g.put ∙ append_assoc ss g.more h.more;
  steps = All-append (IsStepOf ks near) g.more h.more g.steps h.steps;
}

pub next_then : (f : Collection) (a : Merging) (k : Key) (near : Option Id) (ss ts us : List TakeStep) → AreNext f a k near ss ts → AreNext f a k near ts us → AreNext f a k near ss us
next_then f a k near ss ts us g h = record {
  more = g.more ++ h.more;
  put = h.put ∙ ap (λ (vs : List TakeStep). vs ++ h.more) g.put ∙ append_assoc ss g.more h.more;
  steps = All-append (IsNext f a k near) g.more h.more g.steps h.steps;
}

-- a step that goes on with the id, by what is near, or by what comes of that
pub goes_on_next : (f : Collection) (a : Merging) (k : Key) (near by : Option Id) (ss ts : List TakeStep) (s : TakeStep) → ts ≡ ss ++ s ∷ [] → step_key s ≡ k → step_near s ≡ by → IsNear a by
    → ((at : Attempt) → IsAccounted at (state_of a) → AreNear at a (near_keys near) → AreNear at a (near_keys by)) → AreNext f a k near ss ts
goes_on_next f a k near by ss ts s put key is own opens =
    put_next f a k near by (k ∷ []) ss ts (λ j m. subst (OpenReaches f k) (sym (among_single k m)) stay) own opens (put_one (k ∷ []) by ss ts s put (record { among = subst (λ j. IsAmong j (k ∷ [])) (sym key) here; by = inr is }))

-- one that goes on with it, and behind it one with something that it openly reaches
pub goes_on_after : (f : Collection) (a : Merging) (k i : Key) (near : Option Id) (ss ts : List TakeStep) (s t : TakeStep) → ts ≡ ss ++ s ∷ t ∷ [] → step_key s ≡ k → step_near s ≡ near → step_key t ≡ i → step_near t ≡ None → OpenReaches f k i → IsNear a near → AreNext f a k near ss ts
goes_on_after f a k i near ss ts s t put key is other none w own =
    put_next f a k near near (k ∷ i ∷ []) ss ts walks own (λ at all h. h) (put_two (k ∷ i ∷ []) near ss ts s t put (record { among = subst (λ j. IsAmong j (k ∷ i ∷ [])) (sym key) here; by = inr is }) (record { among = subst (λ j. IsAmong j (k ∷ i ∷ [])) (sym other) (there here); by = inl none }))
  where
    walks : (j : Key) → IsAmong j (k ∷ i ∷ []) → OpenReaches f k j
    walks _ here = stay
    walks j (there m) = subst (OpenReaches f k) (sym (among_single i m)) w

-- with something near
pub put_by : (ks : List Key) (near : Option Id) (ss ts : List TakeStep) → ArePut ks None ss ts → ArePut ks near ss ts
put_by ks near ss ts h = record { more = h.more; put = h.put; steps = All-weaker (IsStepOf ks None) (IsStepOf ks near) (λ s is. record { among = is.among; by = inl (elim is.by [ inl none ↦ none | inr none ↦ none ]) }) h.more h.steps }

-- whatever is answered
pub ok_then : {T E P Q : Type 0} (r : Result T E) → OnOk r P → (P → Q) → OnOk r Q
ok_then (Ok x) p g = g p
ok_then (Err e) p g = tt

pub on_ok : {T E P : Type 0} (r : Result T E) → P → OnOk r P
on_ok (Ok x) p = p
on_ok (Err e) p = tt

-- about more ids
pub put_more : (ks js : List Key) (near : Option Id) (ss ts : List TakeStep) → ((j : Key) → IsAmong j ks → IsAmong j js) → ArePut ks near ss ts → ArePut js near ss ts
put_more ks js near ss ts more h = record { more = h.more; put = h.put; steps = All-weaker (IsStepOf ks near) (IsStepOf js near) (λ s is. record { among = more (step_key s) is.among; by = is.by }) h.more h.steps }

-- ---- members

-- a refusal
abbrev failed : (T : Type 0) → AggregateError → Result T AggregateError
failed T e = Err e

module _ (f : Collection) (a b : Merging) (k : Key) where
  -- where entries are only added, nothing is said of members
  pub members_grown : {T : Type 0} (x : T) → IsStateKept (state_of a) → RunsTaking (RemembersTruly class_of) f (state_of a) (state_of b) → OnlyGrows f a b → AnswersMembers (Ok x) f a b (IsReachedFrom f k)
  members_grown x kept run grows taken wit has all = TakesMembers-grown f a b (IsReachedFrom f k) taken kept run grows has

  pub members_unidentified : (T : Type 0) (e : AggregateError) → IsUnidentified e → AnswersMembers (failed T e) f a b (IsReachedFrom f k)
  members_unidentified T e says taken wit has all = member_refused_unidentified f (IsReachedFrom f k) taken e says

  -- those of an interface
  pub members_reached : {T : Type 0} (i : Id) (r : Result T AggregateError) → k ≡ interface_key i → AnswersMembers r f a b (ReachesByUses f i) → AnswersMembers r f a b (IsReachedFrom f k)
  members_reached {T} i r is h taken wit has all = by r (h taken (wit_within f (IsReachedFrom f k) (ReachesByUses f i) from (reached_closed f i) wit) has all)
    where
      from : (j : Id) → ReachesByUses f i j → IsReachedFrom f k j
      from j w = record { from = i; at = is; walk = w }

      by : (r : Result T AggregateError) → MatchResult r (λ x. TakesMembers f a b (ReachesByUses f i) taken) (IsMemberRefusal f (ReachesByUses f i) taken) → MatchResult r (λ x. TakesMembers f a b (IsReachedFrom f k) taken) (IsMemberRefusal f (IsReachedFrom f k) taken)
      by (Ok x) g = TakesMembers-within f a b (IsReachedFrom f k) (ReachesByUses f i) taken from g
      by (Err e) g = member_refused_within f (IsReachedFrom f k) (ReachesByUses f i) taken e from g

-- where nothing but the imports is another, entries are only added
pub imports_grow : (f : Collection) (a b : Merging) → ImportsOnly a b → OnlyGrows f a b
imports_grow f a b only = subst (OnlyGrows f a) (sym only) (record { grows = (OnlyGrows-refl f a).grows; shared = refl; noted = λ k o is. inl is })

-- ---- a step from where a call has come to

among_height : (f : Collection) (ks : List Key) (k : Key) → IsAmong k ks → height f k ≤ keys_height f ks
among_height f [] k m = elim m [ ]
among_height f (j ∷ ks) _ here = omega arith
among_height f (j ∷ ks) k (there m) = omega (arith, among_height f ks k m)

module _ (f : Collection) (near ks : List Key) (sound : IsSound f) (stand : AllStand f ks) (a b c : Merging) (may : MayTake f a) (way : AreUnderWay f near ks a b) (s : TakeStep) (due : IsStepDue f near ks a b s) where
  may_b : MayTake f b
  may_b = MayTake-Takes f a b (keys_height f ks) ks (λ t. Unit {0}) may way.takes

  at_root : Stands f due.walk.0
  at_root = among_each (Stands f) due.walk.0 ks due.walk.1 stand

  pub step_stands : Stands f (step_key s)
  step_stands = opens_stand f sound due.walk.0 (step_key s) at_root due.walk.2

  within : AreWithin f (step_key s ∷ []) ks
  within j m = subst (OpenlyFrom f ks) (sym (among_single (step_key s) m)) due.walk

  low : height f (step_key s) ≤ keys_height f ks
  low = omega (arith, opens_lower f sound due.walk.0 (step_key s) at_root due.walk.2, among_height f ks due.walk.0 due.walk.1)

  module _ (g : TakesBy (near_keys (step_near s)) f b c (height f (step_key s)) (step_key s ∷ []) (λ t. Unit {0})) where
    -- all stays accounted for
    stays : (at : Attempt) → IsTrial at f ks → IsAccounted at (state_of a) → AreNear at a near → StaysAccounted at (state_of b) (state_of c)
    stays at trial all by = g.accounts at (trial_within at f (step_key s ∷ []) ks within trial) (way.takes.accounts at trial all by).now (due.by at trial all by)

    -- more was taken in
    now_takes : TakesBy near f a c (keys_height f ks) ks (λ t. Unit {0})
    now_takes =
        let g' = way.takes in
        let kept = may_b.kept in
        record {
          low = λ k above none. g.low k (omega (arith, low, above)) (g'.low k above none);
          run = RunsTaking-trans (RemembersTruly class_of) f (state_of a) (state_of b) (state_of c) g'.run g.run;
          filed = g.filed;
          owners = λ e one k. g.owners e one (g'.owners e one k);
          led = g.led ∙ g'.led;
          stays = λ q i is. g.stays q i (g'.stays q i is);
          due = λ q i is. elim (g.due q i is) [
            | inl was ↦ elim (g'.due q i was) [
              | inl old ↦ inl old
              | inr new ↦ inr (owners_import_still f b c kept g.run ks q i new)
            ]
            | inr new ↦ inr (owners_import_within f c (step_key s ∷ []) ks within q i new)
          ];
          shares = λ e among. elim (g.shares e among) [
            | inl was ↦ elim (g'.shares e was) [
              | inl old ↦ inl old
              | inr new ↦ inr (shared_from_still f b c kept g.run ks e was new)
            ]
            | inr new ↦ inr (shared_from_within f c (step_key s ∷ []) ks within e new)
          ];
          identified = adds_then (RemembersTruly class_of) f (state_of a) (state_of b) (state_of c) kept g.run g'.identified g.identified;
          plain = λ p. g.plain (plain_within f (step_key s ∷ []) ks within p) ∙ g'.plain p;
          known = λ all. OnlyGrows-trans f a b c (g'.known all) (g.known (known_within f b (step_key s ∷ []) ks within (known_still f a b ks g'.run all)));
          accounts = λ at trial all by. accounted_then at (state_of a) (state_of b) (state_of c) (g'.run.narrows may.kept).standing (g'.accounts at trial all by) (stays at trial all by);
          holds = tt;
        }

    still_due : (t : TakeStep) → IsStepDue f near ks a b t → IsStepDue f near ks a c t
    still_due t h = record {
      walk = h.walk;
      own = IsNear-Takes f b c (height f (step_key s)) (step_key s ∷ []) (λ t. Unit {0}) (step_near t) may_b g h.own;
      by = λ at trial all by. near_still at b c (near_keys (step_near t)) (g.run.narrows may_b.kept).standing (stays at trial all by) (h.by at trial all by);
    }

    -- a step to which this one leads is due
    next_due : (t : TakeStep) → IsNext f c (step_key s) (step_near s) t → IsStepDue f near ks a c t
    next_due t h = record {
      walk = openly_within f (step_key s ∷ []) ks (step_key t) within (step_key s, here, h.walk);
      own = h.own;
      by = λ at trial all by. h.by at (stays at trial all by).now ((still_due s due).by at trial all by);
    }

  -- ---- members of the set that is reached by uses

  module _ (i : Id) (is : ks ≡ interface_key i ∷ []) (taken : TakenIds) (wit : AreWit f (ReachesByUses f i)) (has : HasTakenIn a taken) (all : HasAllOf f a taken) where
    reached : (j : Id) → IsReachedFrom f (step_key s) j → ReachesByUses f i j
    reached j r =
        let root : due.walk.0 ≡ interface_key i = among_single (interface_key i) (subst (IsAmong due.walk.0) is due.walk.1) in
        let walk : OpenReaches f (interface_key i) (interface_key r.from) = subst (OpenReaches f (interface_key i)) r.at (subst (λ x. OpenReaches f x (step_key s)) root due.walk.2) in
        ByUses-trans (by_uses f (ReachesByUses f i) wit i r.from ReachesByUses.stay (opens_reach f (interface_key i) (interface_key r.from) walk)) r.walk

    wit_reached : AreWit f (IsReachedFrom f (step_key s))
    wit_reached = wit_within f (ReachesByUses f i) (IsReachedFrom f (step_key s)) reached (λ j k r u. record { from = r.from; at = r.at; walk = reached_closed f r.from j k r.walk u }) wit

    more_members : TakesMembers f a b (ReachesByUses f i) taken
    more_members = way.members i is taken wit has all

    now_members : ((t : TakenIds) → AreWit f (IsReachedFrom f (step_key s)) → HasTakenIn b t → HasAllOf f b t → TakesMembers f b c (IsReachedFrom f (step_key s)) t) → TakesMembers f a c (ReachesByUses f i) taken
    now_members h =
        let g = more_members in
        TakesMembers-then f a b c (ReachesByUses f i) taken g (TakesMembers-within f b c (ReachesByUses f i) (IsReachedFrom f (step_key s)) g.more reached (h g.more wit_reached g.has (g.all f (λ e. refl) all)))

    members_refused : (e : AggregateError) → ((t : TakenIds) → AreWit f (IsReachedFrom f (step_key s)) → HasTakenIn b t → HasAllOf f b t → IsMemberRefusal f (IsReachedFrom f (step_key s)) t e) → IsMemberRefusal f (ReachesByUses f i) taken e
    members_refused e h =
        let g = more_members in
        member_refused_after f (ReachesByUses f i) taken g.more e g.are_more (member_refused_within f (ReachesByUses f i) (IsReachedFrom f (step_key s)) g.more e reached (h g.more wit_reached g.has (g.all f (λ e. refl) all)))

  -- ---- what refuses the step refuses the call

  refused_step : (e : AggregateError) → IsRefusedBy (near_keys (step_near s)) f b (step_key s ∷ []) e → IsRefusedBy near f a ks e
  refused_step e h ne =
      let r = h ne in
      record {
        plain = λ p. r.plain (plain_within f (step_key s ∷ []) ks within p);
        known = λ all. r.known (known_within f b (step_key s ∷ []) ks within (known_still f a b ks way.takes.run all));
        reason = λ at trial all by. r.reason at (trial_within at f (step_key s ∷ []) ks within trial) (way.takes.accounts at trial all by).now (due.by at trial all by);
      }

  -- ---- so the call goes on

  pub step_goes_on : (r : Result (Unit {0}) AggregateError) (ss ts : List TakeStep) → All (IsStepDue f near ks a b) ss
      → MatchResult r (λ u. TakesBy (near_keys (step_near s)) f b c (height f (step_key s)) (step_key s ∷ []) (λ t. Unit {0})) (IsRefusedBy (near_keys (step_near s)) f b (step_key s ∷ []))
      → AnswersMembers r f b c (IsReachedFrom f (step_key s)) → OnOk r (AreNext f c (step_key s) (step_near s) ss ts)
      → MatchResult r (λ u. AreUnderWay f near ks a c × All (IsStepDue f near ks a c) ts) (AreRefusedFrom f near ks a)
  step_goes_on (Ok u) ss ts others takes members next = (
    record { takes = now_takes takes; members = λ i is taken wit has all. now_members i is taken wit has all members },
    subst (All (IsStepDue f near ks a c)) (sym next.put) (All-append (IsStepDue f near ks a c) ss next.more (All-weaker (IsStepDue f near ks a b) (IsStepDue f near ks a c) (still_due takes) ss others) (All-weaker (IsNext f c (step_key s) (step_near s)) (IsStepDue f near ks a c) (next_due takes) next.more next.steps)),
  )
  step_goes_on (Err e) ss ts others takes members next = record { refused = refused_step e takes; members = λ i is taken wit has all. members_refused i is taken wit has all e members }

-- ---- a failed allocation

pub memory_refused : (f : Collection) (near ks : List Key) (a : Merging) → AreRefusedFrom f near ks a Memory
memory_refused f near ks a = record {
  refused = λ ne. absurd (ne refl);
  members = λ i is taken wit has all. member_refused_unidentified f (ReachesByUses f i) taken Memory (λ r says. absurd (not_memory Memory r says refl));
}

-- ---- a call, from its start on

module _ (f : Collection) (near : Option Id) (ks : List Key) (a : Merging) (may : MayTake f a) where
  pub way_first : AreUnderWay f (near_keys near) ks a a
  way_first = record { takes = Takes-none f {near = near_keys near} a (keys_height f ks) ks (λ t. Unit {0}) may tt; members = λ i is taken wit has all. TakesMembers-none f a (ReachesByUses f i) taken has }

  pub no_steps_due : (b : Merging) (ss : List TakeStep) → ss ≡ [] → All (IsStepDue f (near_keys near) ks a b) ss
  no_steps_due b ss none = subst (All (IsStepDue f (near_keys near) ks a b)) (sym none) (All-nil (IsStepDue f (near_keys near) ks a b))

  -- the first steps are due
  pub asked_due : (b : Merging) (ss ts : List TakeStep) → IsNear b near → AreUnderWay f (near_keys near) ks a b → ArePut ks near ss ts → All (IsStepDue f (near_keys near) ks a b) ss → All (IsStepDue f (near_keys near) ks a b) ts
  asked_due b ss ts own way put others = subst (All (IsStepDue f (near_keys near) ks a b)) (sym put.put) (All-append (IsStepDue f (near_keys near) ks a b) ss put.more others (All-weaker (IsStepOf ks near) (IsStepDue f (near_keys near) ks a b) (λ s is. due s is is.by) put.more put.steps))
    where
      by_near : (at : Attempt) → IsTrial at f ks → IsAccounted at (state_of a) → AreNear at a (near_keys near) → AreNear at b (near_keys near)
      by_near at trial all by = near_still at a b (near_keys near) (way.takes.run.narrows may.kept).standing (way.takes.accounts at trial all by) by

      due : (s : TakeStep) → IsStepOf ks near s → (step_near s ≡ None) ⊎ (step_near s ≡ near) → IsStepDue f (near_keys near) ks a b s
      due s is (inl none) = record { walk = (step_key s, is.among, stay); own = subst (IsNear b) (sym none) (IsNear-none b); by = λ at trial all by. subst (λ o. AreNear at b (near_keys o)) (sym none) (near_none at b) }
      due s is (inr same) = record { walk = (step_key s, is.among, stay); own = subst (IsNear b) (sym same) own; by = λ at trial all by. subst (λ o. AreNear at b (near_keys o)) (sym same) (by_near at trial all by) }

  -- so is the first step of an item
  pub first_due : (s : TakeStep) → IsNear a near → IsStepOf ks near s → IsStepDue f (near_keys near) ks a a s
  first_due s own of = All-head (IsStepDue f (near_keys near) ks a a) s [] (asked_due a [] (s ∷ []) own way_first (put_one ks near [] (s ∷ []) s refl of) (no_steps_due a [] refl))

  -- what is due may be taken
  pub due_steps : IsSound f → AllStand f ks → (b : Merging) (ss : List TakeStep) → AreUnderWay f (near_keys near) ks a b → All (IsStepDue f (near_keys near) ks a b) ss → All (MayStep f b) ss
  due_steps sound stand b ss way h = All-weaker (IsStepDue f (near_keys near) ks a b) (MayStep f b) (λ s due. (step_stands f (near_keys near) ks sound stand a b b may way s due, due.own)) ss h

-- what was taken in, with a fact of the state
pub Takes-gives : {near : List Key} (f : Collection) (a b : Merging) (top : ℕ) (ks : List Key) (Q P : State → Type 0) → P (state_of b) → TakesBy near f a b top ks Q → TakesBy near f a b top ks P
Takes-gives f a b top ks Q P p h = record {
  low = h.low;
  run = h.run;
  filed = h.filed;
  owners = h.owners;
  led = h.led;
  stays = h.stays;
  due = h.due;
  shares = h.shares;
  identified = h.identified;
  plain = h.plain;
  known = h.known;
  accounts = h.accounts;
  holds = p;
}

-- the last step, and the others
pub step_popped : (P : TakeStep → Type 0) (ss ts : List TakeStep) (r : Option TakeStep) (s : TakeStep) → ss ≡ ts ++ option_to_list r → r ≡ Some s → All P ss → All P ts × P s
step_popped P ss ts r s is last h =
    let parts = All-pop P ss ts r is h in
    (parts.0, subst (λ o. IfSome o P) last parts.1)
