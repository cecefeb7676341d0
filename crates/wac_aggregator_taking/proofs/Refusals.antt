-- Why what is to be taken in is refused: what refuses a part refuses the whole.
use Rattle.std.proofs.Common.{◌≡◌, ℕ, List, [], ◌∷◌, Some, None, Result, IsErr, Contains, slice_get, refl, ap, sym, subst, ◌∙◌}
use Rattle.std.specs.Result.{IsErrAnd, MatchResult}
use Rattle.wac_model.specs.Text.{Text}
use Rattle.wac_component.specs.Collection.{Collection, UseContent, ResourceContent}
use Rattle.wac_component.specs.Entries.{uses_at, owner_at}
use Rattle.wac_component.specs.Id.{Id}
use Rattle.wac_component.specs.Implicit.{identifier}
use Rattle.wac_component.specs.Key.{Key, named_keys, use_keys, interface_key, resource_key}
use Rattle.wac_component.specs.Reach.{IsAmong, here, there, stay}
use Rattle.wac_component.proofs.Among.{Contains-first, Contains-later}
use Rattle.wac_aggregator_promises.specs.Attempt.{Attempt}
use Rattle.wac_aggregator_promises.specs.Reason.{no_identifier, owner_without_identifier, IsReason}
use Rattle.wac_aggregator_narrowing.specs.State.{State}
use Rattle.wac_aggregator_reasons.specs.Trial.{IsAccounted}
use Rattle.wac_aggregator_errors.specs.declared.error.AggregateError.{AggregateError}
use Rattle.wac_aggregator_errors.specs.Said.{said}
use Rattle.wac_aggregator_errors.proofs.Passing.{passed_on}
use Rattle.wac_aggregator_taking.specs.Refused.{IsOfUnidentified, IsRefusedBy, MayRefuse, AreRefusedUses}
use Rattle.wac_aggregator_taking.specs.Takes.{state_of, AreNear, MayTake, AreWithin, TakesBy}
use Rattle.wac_aggregator_taking.specs.declared.state.Merging.{Merging}
use Rattle.wac_aggregator_taking.proofs.Plain.{plain_within, contains_at}
use Rattle.wac_aggregator_taking.proofs.TakeLemmas.{known_within, known_still, trial_within, near_still, near_none}

module _ (f : Collection) where
  -- what refuses a part refuses the whole
  pub refused_within : {near : List Key} (a : Merging) (ks js : List Key) (e : AggregateError) → AreWithin f ks js → IsRefusedBy near f a ks e → IsRefusedBy near f a js e
  refused_within a ks js e within h ne =
      let r = h ne in
      record {
        plain = λ p. r.plain (plain_within f ks js within p);
        known = λ all. r.known (known_within f a ks js within all);
        reason = λ at trial all by. r.reason at (trial_within at f ks js within trial) all by;
      }

  -- so does what refuses a part after others were taken in
  pub refused_later : {near : List Key} (a b : Merging) (top : ℕ) (ls ks js : List Key) (Q : State → Type 0) (e : AggregateError) → AreWithin f ls js → AreWithin f ks js → MayTake f a → TakesBy near f a b top ls Q → IsRefusedBy near f b ks e → IsRefusedBy near f a js e
  refused_later {near} a b top ls ks js Q e first within may g h ne =
      let r = h ne in
      record {
        plain = λ p. r.plain (plain_within f ks js within p);
        known = λ all. r.known (known_within f b ks js within (known_still f a b js g.run all));
        reason = λ at trial all by.
            let one = g.accounts at (trial_within at f ls js first trial) all by in
            r.reason at (trial_within at f ks js within trial) one.now (near_still at a b near (g.run.narrows may.kept).standing one by);
      }

  -- what is near to a part is near if what is near to the whole is
  pub refused_near : (near others : List Key) (a : Merging) (ks : List Key) (e : AggregateError) → ((at : Attempt) → IsAccounted at (state_of a) → AreNear at a others → AreNear at a near) → IsRefusedBy near f a ks e → IsRefusedBy others f a ks e
  refused_near near others a ks e of h ne = let r = h ne in record { plain = r.plain; known = r.known; reason = λ at trial all by. r.reason at trial all (of at all by) }

  -- whatever is near
  pub refused_apart : {near : List Key} (a : Merging) (ks : List Key) (e : AggregateError) → MayRefuse f a ks e → IsRefusedBy near f a ks e
  refused_apart {near} a ks e h = refused_near [] near a ks e (λ at all by. near_none at a) h

-- what refuses a part, passed on
pub refused_part : {X : Type 0} {near : List Key} (f : Collection) (a : Merging) (ks js : List Key) (r : Result X AggregateError) (P : X → Type 0) (e : AggregateError) → AreWithin f ks js → IsRefusedBy near f a ks e → IsErr r × IsErrAnd r (λ y. y ≡ e) → MatchResult r P (IsRefusedBy near f a js)
refused_part {near = near} f a ks js r P e within h err = passed_on r P (IsRefusedBy near f a js) e err (refused_within f a ks js e within h)

-- what an interface or a world uses is refused as it is itself
pub refused_uses : {X : Type 0} (near : List Key) (f : Collection) (a : Merging) (k : Key) (us : List (Text × UseContent)) (r : Result X AggregateError) (P : X → Type 0) (e : AggregateError) → uses_at f k ≡ us → AreRefusedUses f a us e → IsErr r × IsErrAnd r (λ y. y ≡ e) → MatchResult r P (IsRefusedBy near f a (k ∷ []))
refused_uses near f a k us r P e are h err = passed_on r P (IsRefusedBy near f a (k ∷ [])) e err (refused_apart f a (k ∷ []) e (h k are))

-- an entry leads to the interfaces that it uses
pub among_uses : (us : List (Text × UseContent)) (j : Key) → IsAmong j (named_keys use_keys us) → (n : Text) × (u : UseContent) × Contains us (n, u) × (interface_key u.interface ≡ j)
among_uses [] j m = elim m [ ]
among_uses ((n, u) ∷ us) j here = (n, u, Contains-first (n, u) us, refl)
among_uses ((n, u) ∷ us) j (there m) = let r = among_uses us j m in (r.0, r.1, Contains-later (r.0, r.1) (n, u) us r.2, r.3)

-- a resource whose owner has no identifier
pub refused_owner : (f : Collection) (a : Merging) (r o : Id) (x : ResourceContent) (e : AggregateError) → slice_get f.resources r.index ≡ Some x → owner_at f r ≡ Some o → identifier f o ≡ None → said e ≡ Some (owner_without_identifier x.name) → MayRefuse f a (resource_key r ∷ []) e
refused_owner f a r o x e at owned none says ne = record {
  plain = λ p.
      let unowned = p.no_owner r (resource_key r, here, stay) in
      absurd (let both : None ≡ Some o = sym unowned ∙ owned in cc);
  known = λ all s said_is. let same : s ≡ owner_without_identifier x.name = let both : Some s ≡ Some (owner_without_identifier x.name) = sym said_is ∙ says in cc in subst IsOfUnidentified (sym same) tt;
  reason = λ tried trial all by s said_is.
      let same : s ≡ owner_without_identifier x.name = let both : Some s ≡ Some (owner_without_identifier x.name) = sym said_is ∙ says in cc in
      let there : (c : Collection) → Type 0 = λ c. (slice_get c.resources r.index ≡ Some x) × (owner_at c r ≡ Some o) × (identifier c o ≡ None) in
      let w : there tried.call.types = subst there (sym trial.types) (at, owned, none) in
      subst (IsReason tried) (sym same) (record { resource = r; entry = x; owner = o; reached = trial.reached (resource_key r) here; is_at = w.0; named = refl; owned = w.1; unidentified = w.2 });
}

-- an entry that uses an interface without identifier
pub refused_use : (f : Collection) (a : Merging) (us : List (Text × UseContent)) (i : ℕ) (name : Text) (u : UseContent) (e : AggregateError) → slice_get us i ≡ Some (name, u) → identifier f u.interface ≡ None → said e ≡ Some (no_identifier name) → AreRefusedUses f a us e
refused_use f a us i name u e at none says k are ne = record {
  plain = λ p.
      let no_uses : us ≡ [] = sym are ∙ p.no_uses k (k, here, stay) in
      absurd (let both : None ≡ Some (name, u) = sym (ap (λ vs. slice_get vs i) no_uses) ∙ at in cc);
  known = λ all s said_is. let same : s ≡ no_identifier name = let both : Some s ≡ Some (no_identifier name) = sym said_is ∙ says in cc in subst IsOfUnidentified (sym same) tt;
  reason = λ tried trial all by s said_is.
      let same : s ≡ no_identifier name = let both : Some s ≡ Some (no_identifier name) = sym said_is ∙ says in cc in
      let has = subst (λ vs. Contains vs (name, u)) (sym are) (contains_at us i (name, u) at) in
      subst (IsReason tried) (sym same) (record {
        key = k;
        content = u;
        reached = trial.reached k here;
        has = subst (λ c. Contains (uses_at c k) (name, u)) (sym trial.types) has;
        unidentified = subst (λ c. identifier c u.interface ≡ None) (sym trial.types) none;
      });
}
