-- Interfaces as WIT gives them are taken in one after another.
use Rattle.std.proofs.Common.{◌≡◌, inl, inr, is_some, IsSome, Contains, Option, Some, None, refl, ap, sym, subst, ◌∙◌}
use Rattle.wac_model.specs.Text.{Text}
use Rattle.wac_component.specs.Collection.{Collection}
use Rattle.wac_component.specs.Entries.{identifier_at}
use Rattle.wac_component.specs.Id.{Id}
use Rattle.wac_component.specs.Implicit.{identifier, HasIdentifier}
use Rattle.wac_component.specs.Key.{Key, interface_key}
use Rattle.wac_component.specs.Open.{open_next, OpenReaches, stay, step}
use Rattle.wac_component.specs.Reach.{IsAmong}
use Rattle.wac_names.specs.Class.{Class, class_of}
use Rattle.wac_aggregator_promises.specs.Entries.{Uses, ReachesByUses}
use Rattle.wac_aggregator_promises.specs.Reason.{CallRefusal, kinds, mismatch, unexplained, used_interface, used_name, no_identifier, owner_without_identifier, taken as is_taken, cycle}
use Rattle.wac_aggregator_promises.specs.Shared.{TakenIds, AreShared}
use Rattle.wac_aggregator_promises.specs.WitList.{AreWit}
use Rattle.wac_aggregator_promises.proofs.ByUses.{ByUses-trans}
use Rattle.wac_aggregator_promises.proofs.Read.{use_opens}
use Rattle.wac_aggregator_promises.proofs.TakenIn.{sharing_goes_on}
use Rattle.wac_aggregator_memo.specs.Memo.{memo_of}
use Rattle.wac_aggregator_narrowing.specs.State.{IsOneWith, IsStateKept, RunsTaking}
use Rattle.wac_aggregator_narrowing.specs.Remembers.{RemembersTruly}
use Rattle.wac_aggregator_narrowing.specs.Traced.{Arrows, IsArrowed}
use Rattle.wac_aggregator_narrowing.proofs.Tracing.{traced_added}
use Rattle.wac_aggregator_reasons.proofs.Moving.{identifier_is}
use Rattle.wac_aggregator_errors.specs.declared.error.AggregateError.{AggregateError}
use Rattle.wac_aggregator_taking.specs.Members.{HasTakenIn, HasAllOf, roots_of, AreMore, TakesMembers, Hinders, at_entry, in_cycle, IsOfMerging, IsMemberRefusal}
use Rattle.wac_aggregator_errors.specs.Said.{said}
use Rattle.wac_aggregator_taking.specs.Refused.{IsOfUnidentified}
use Rattle.wac_aggregator_taking.specs.Takes.{OnlyGrows, shared_in, shared_keys, state_of}
use Rattle.wac_aggregator_taking.specs.declared.state.Merging.{Merging}

-- ---- sets of interfaces

-- a part of such a set that is closed under uses is one
pub wit_within : (f : Collection) (P Q : Id → Type 0) → ((i : Id) → Q i → P i) → ((i j : Id) → Q i → Uses f i j → Q j) → AreWit f P → AreWit f Q
wit_within f P Q within closed wit = record {
  uses = closed;
  identified = λ i q. wit.identified i (within i q);
  exports = λ i q. wit.exports i (within i q);
  owners = λ i r o q walk owned. wit.owners i r o (within i q) walk owned;
}

-- what an interface reaches by uses is closed under them, and so is what some uses reach
pub reached_closed : (f : Collection) (i : Id) → (j k : Id) → ReachesByUses f i j → Uses f j k → ReachesByUses f i k
reached_closed f i j k walk uses = ByUses-trans walk (ReachesByUses.step uses ReachesByUses.stay)

-- ---- more of them

module _ (f : Collection) (P : Id → Type 0) where
  pub AreMore-refl : (taken : TakenIds) → AreMore f P taken taken
  AreMore-refl taken = record { old = λ c i m. m; new = λ c i m. inl m }

  pub AreMore-then : (taken more most : TakenIds) → AreMore f P taken more → AreMore f P more most → AreMore f P taken most
  AreMore-then taken more most g h = record {
    old = λ c i m. h.old c i (g.old c i m);
    new = λ c i m. elim (h.new c i m) [ inl was ↦ g.new c i was | inr one ↦ inr one ];
  }

pub AreMore-within : (f : Collection) (P Q : Id → Type 0) → ((i : Id) → Q i → P i) → (taken more : TakenIds) → AreMore f Q taken more → AreMore f P taken more
AreMore-within f P Q within taken more h = record { old = h.old; new = λ c i m. elim (h.new c i m) [ inl was ↦ inl was | inr one ↦ inr (one.0, within i one.1) ] }

-- nothing is taken in
pub TakesMembers-none : (f : Collection) (a : Merging) (P : Id → Type 0) (taken : TakenIds) → HasTakenIn a taken → TakesMembers f a a P taken
TakesMembers-none f a P taken has = record { more = taken; are_more = AreMore-refl f P taken; has = has; all = λ g one h. h }

-- one after another
pub TakesMembers-then : (f : Collection) (a b c : Merging) (P : Id → Type 0) (taken : TakenIds) (g : TakesMembers f a b P taken) → TakesMembers f b c P g.more → TakesMembers f a c P taken
TakesMembers-then f a b c P taken g h = record { more = h.more; are_more = AreMore-then f P taken g.more h.more g.are_more h.are_more; has = h.has; all = λ e one all. h.all e one (g.all e one all) }

-- of a part of the set
pub TakesMembers-within : (f : Collection) (a b : Merging) (P Q : Id → Type 0) (taken : TakenIds) → ((i : Id) → Q i → P i) → TakesMembers f a b Q taken → TakesMembers f a b P taken
TakesMembers-within f a b P Q taken within h = record { more = h.more; are_more = AreMore-within f P Q within taken h.more h.are_more; has = h.has; all = h.all }

-- entries are only added, and what is noted anew has no identifier
pub TakesMembers-grown : (f : Collection) (a b : Merging) (P : Id → Type 0) (taken : TakenIds) → IsStateKept (state_of a) → RunsTaking (RemembersTruly class_of) f (state_of a) (state_of b) → OnlyGrows f a b → HasTakenIn a taken → TakesMembers f a b P taken
TakesMembers-grown f a b P taken kept run grows has = record {
  more = taken;
  are_more = AreMore-refl f P taken;
  has = record {
    shared = subst (λ ss. AreShared taken b.types (shared_in ss)) (sym grows.shared) (sharing_goes_on.added taken a.types b.types (shared_in a.shared.entries) has.shared grows.grows (run.kept kept).good.sound);
    found = subst (λ ss. (e : Id) → IsAmong (interface_key e) (shared_keys ss) → (t : Class) × (shared_in ss t ≡ Some e)) (sym grows.shared) has.found;
    noted = λ c i m. noted_still (interface_key i) (memo_of a.taken (interface_key i)) refl (has.noted c i m);
    arrowed = subst (λ ss. IsArrowed b.types (shared_keys ss) (roots_of taken)) (sym grows.shared) (traced_added class_of (Arrows class_of (roots_of taken)) a.types b.types (shared_keys a.shared.entries) kept.good grows.grows has.arrowed);
  };
  all = λ g one all i number named is. by_memo g one all i number named (memo_of b.taken (interface_key i)) refl is;
}
  where
    noted_still : (k : Key) (o : Option Key) → memo_of a.taken k ≡ o → IsSome o → IsSome (memo_of b.taken k)
    noted_still k None is some = absurd (cc some)
    noted_still k (Some o) is some = ap is_some (run.taken k o is)

    stranger : (g : Collection) (i : Id) → identifier_at g (interface_key i) ≡ None → HasIdentifier g i → ⊥
    stranger g i none named = at (identifier g i) (sym (identifier_is g i) ∙ none) named
      where
        at : (o : Option Text) → o ≡ None → IsSome o → ⊥
        at None is some = cc some
        at (Some n) is some = cc

    by_memo : (g : Collection) → IsOneWith f g → HasAllOf g a taken → (i : Id) → i.number ≡ g.number → HasIdentifier g i → (o : Option Key) → memo_of b.taken (interface_key i) ≡ o → IsSome o → Contains taken (g, i)
    by_memo g one all i number named None is some = absurd (cc some)
    by_memo g one all i number named (Some o) is some =
        elim (grows.noted (interface_key i) o is) [
          | inl was ↦ all i number named (ap is_some was)
          | inr new ↦ absurd (stranger g i (subst (λ (e : Collection). identifier_at e (interface_key i) ≡ None) (sym (one (sym number ∙ new.0))) new.1) named)
        ]

-- ---- refusals

pub hinders_within : (f : Collection) (P Q : Id → Type 0) (taken : TakenIds) → ((i : Id) → Q i → P i) → Hinders f Q taken → Hinders f P taken
hinders_within f P Q taken within (at_entry own shared i stood is cannot) = at_entry own shared i stood (within i is) cannot
hinders_within f P Q taken within (in_cycle t arrows) = in_cycle t arrows

pub member_refused_within : (f : Collection) (P Q : Id → Type 0) (taken : TakenIds) (e : AggregateError) → ((i : Id) → Q i → P i) → IsMemberRefusal f Q taken e → IsMemberRefusal f P taken e
member_refused_within f P Q taken e within h r says merging =
    let n = h r says merging in
    record { more = n.more; are_more = AreMore-within f P Q within taken n.more n.are_more; hinders = hinders_within f P Q n.more within n.hinders }

-- after more were taken in
pub member_refused_after : (f : Collection) (P : Id → Type 0) (taken more : TakenIds) (e : AggregateError) → AreMore f P taken more → IsMemberRefusal f P more e → IsMemberRefusal f P taken e
member_refused_after f P taken more e are h r says merging = let n = h r says merging in record { more = n.more; are_more = AreMore-then f P taken more n.more are n.are_more; hinders = n.hinders }

-- for the want of an identifier
pub member_refused_unidentified : (f : Collection) (P : Id → Type 0) (taken : TakenIds) (e : AggregateError) → ((r : CallRefusal) → said e ≡ Some r → IsOfUnidentified r) → IsMemberRefusal f P taken e
member_refused_unidentified f P taken e h r says merging = absurd (apart r (h r says) merging)
  where
    apart : (r : CallRefusal) → IsOfUnidentified r → IsOfMerging r → ⊥
    apart (kinds x y) u m = u
    apart mismatch u m = u
    apart unexplained u m = u
    apart (used_interface x y z) u m = u
    apart (used_name x) u m = u
    apart (no_identifier x) u m = m
    apart (owner_without_identifier x) u m = m
    apart (is_taken x) u m = u
    apart (cycle x) u m = u

-- ---- what exports lead to

-- what is reached by uses is openly reached
pub openly_by_uses : (f : Collection) (i j : Id) → ReachesByUses f i j → OpenReaches f (interface_key i) (interface_key j)
openly_by_uses f i j ReachesByUses.stay = stay
openly_by_uses f i j (ReachesByUses.step {j = o} u v) = step (subst (λ x. IsAmong (interface_key x) (open_next f (interface_key i))) u.is_of (use_opens f (interface_key i) u.name u.content u.has)) (openly_by_uses f o j v)
