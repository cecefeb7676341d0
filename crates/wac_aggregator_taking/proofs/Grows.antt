-- A shared entry grows by an interface of which all parts were taken in.
use Rattle.std.proofs.Common.{◌≡◌, refl, ap, sym, subst, ◌∙◌, List, Some, None, slice_get, Option, [], ◌∷◌, inl}
use Rattle.std.specs.Option.{option_map}
use Rattle.wac_model.specs.Text.{Text}
use Rattle.wac_component.specs.Collection.{Collection, UseContent, InterfaceContent}
use Rattle.wac_component.specs.Entries.{identifier_at}
use Rattle.wac_component.specs.Growth.{Extends}
use Rattle.wac_component.specs.Height.{height}
use Rattle.wac_component.specs.Id.{Id}
use Rattle.wac_component.specs.Key.{Key, Each, Stands, AllStand, interface_entry, entry_at, interface_key, interface_keys, named_keys, use_keys, optional_keys, other_keys}
use Rattle.wac_aggregator_memo.specs.Memo.{AddsPair, memo_of}
use Rattle.wac_component.specs.Open.{open_next, step}
use Rattle.wac_component.specs.Reach.{IsAmong}
use Rattle.wac_component.specs.Replacing.{NamesReach}
use Rattle.wac_component.proofs.Among.{each_among}
use Rattle.wac_component.proofs.Extended.{AllStand-Extends}
use Rattle.wac_component.proofs.Keys.{Each-left, Each-right, Each-append}
use Rattle.wac_component.proofs.Lists.{slice_get-map}
use Rattle.wac_component.proofs.Reading.{interface_at}
use Rattle.wac_merge.specs.Built.{uses_of_both}
use Rattle.wac_merge.specs.Items.{ExternKinds, extern_keys, AreUnhidden}
use Rattle.wac_names.specs.Class.{class_of}
use Rattle.wac_aggregator_narrowing.specs.Entering.{InterfaceIsTaken}
use Rattle.wac_aggregator_narrowing.specs.Identified.{IsCovered}
use Rattle.wac_aggregator_narrowing.specs.Narrows.{IsGoodStep, CanGrow, grown}
use Rattle.wac_aggregator_narrowing.specs.Remembers.{RemembersTruly}
use Rattle.wac_aggregator_narrowing.specs.State.{State, IsStateKept, RunsTaking}
use Rattle.wac_aggregator_narrowing.specs.Taking.{IsTakenKey, IsTakenItem}
use Rattle.wac_aggregator_narrowing.proofs.Growing.{stood}
use Rattle.wac_aggregator_narrowing.proofs.Entering.{interface_named, interface_covered, grown_interface_enters}
use Rattle.wac_aggregator_narrowing.proofs.Mapped.{mapped_more, taken_keys_still, taken_item_still}
use Rattle.wac_aggregator_narrowing.proofs.Remembered.{RemembersTruly-step}
use Rattle.wac_aggregator_narrowing.proofs.Running.{RunsTaking-step, RunsTaking-trans}
use Rattle.wac_aggregator_reasons.specs.Split.{AddsSharedOrBelow}
use Rattle.wac_aggregator_memo.specs.declared.memo.Memo.{Memo}
use Rattle.wac_aggregator_taking.specs.Growing.{AreMetWith}
use Rattle.wac_aggregator_taking.specs.Takes.{shared_in, state_of, MayTake, MayPut, Takes}
use Rattle.wac_aggregator_taking.specs.declared.state.Merging.{Merging}
use Rattle.wac_aggregator_taking.proofs.Enters.{interface_owners}
use Rattle.wac_aggregator_taking.proofs.GrowAccounts.{grown_accounted}
use Rattle.wac_aggregator_taking.proofs.GrowLemmas.{covered_on, served_on}
use Rattle.wac_aggregator_taking.proofs.TakeLemmas.{lookup-shared, shared_stands, shared_covered, content_identifier, AreFiledIn-run, Takes-entered, not_known}

-- the entry of an id, by the list of its sort
pub entry_of : (c : Collection) (e : Id) (x : InterfaceContent) → entry_at c (interface_key e) ≡ Some (interface_entry x) → slice_get c.interfaces e.index ≡ Some x
entry_of c e x h = at (slice_get c.interfaces e.index) (sym (slice_get-map interface_entry c.interfaces e.index) ∙ h)
  where
    at : (o : Option InterfaceContent) → option_map interface_entry o ≡ Some (interface_entry x) → o ≡ Some x
    at None k = absurd (cc)
    at (Some y) k = let same : y ≡ x = cc in ap Some same

-- the entry that stood is what stands there once the collection has been added to
pub same_entry_still : (c d : Collection) (e : Id) (x y : InterfaceContent) → Extends c d → Stands c (interface_key e) → slice_get c.interfaces e.index ≡ Some x → slice_get d.interfaces e.index ≡ Some y → y ≡ x
same_entry_still c d e x y grows st was is =
    let both : Some y ≡ Some x = sym is ∙ entry_of d e x (grows.same_entry (interface_key e) st ∙ interface_at c e x was) in
    cc

-- an interface that was taken in is so after every run
pub interface_taken_still : (f : Collection) (s t : State) → IsStateKept s → RunsTaking (RemembersTruly class_of) f s t → (p : Id) (x z : InterfaceContent) → InterfaceIsTaken class_of f s p x z → InterfaceIsTaken class_of f t p x z
interface_taken_still f s t kept run p x z h = record {
  sound = h.sound;
  stands = h.stands;
  entry = h.entry;
  names = h.names;
  uses = taken_keys_still class_of f s t kept (RemembersTruly class_of) f run (named_keys use_keys x.uses) (named_keys use_keys z.uses) h.uses;
  exports = mapped_more (IsTakenItem class_of f s) (IsTakenItem class_of f t) (taken_item_still class_of f s t kept (RemembersTruly class_of) f run) x.exports z.exports h.exports;
}

-- what the entry at an id names leads openly to shared interfaces alone where the id does
pub parts_covered : (c : Collection) (ss : List Key) (e : Id) (x : InterfaceContent) → slice_get c.interfaces e.index ≡ Some x → IsCovered c ss (interface_key e) → Each (IsCovered c ss) (interface_keys x)
parts_covered c ss e x was h =
    subst (λ ks. Each (IsCovered c ss) ks) (ap (optional_keys other_keys) (interface_at c e x was))
    (each_among (IsCovered c ss) (open_next c (interface_key e)) (λ j among t n walk is. h t n (step among walk) is))

module _ (f : Collection) (a : Merging) (may : MayTake f a) (p e : Id) (name : Text) (us : List (Text × UseContent)) (es : ExternKinds) (put : MayPut f a p us es) (identified : identifier_at f (interface_key p) ≡ Some name) (shared : shared_in a.shared.entries (class_of name) ≡ Some e)
    (old new : InterfaceContent) (was : slice_get a.types.interfaces e.index ≡ Some old) (old_named : AllStand a.types (interface_keys old)) (same_id : new.id ≡ old.id)
    (uses : (P : Key → Type 0) → Each P (named_keys use_keys old.uses) → Each P (named_keys use_keys us) → Each P (named_keys use_keys new.uses)) (d : Collection) (met : AreMetWith a.types d old.exports es new.exports) where
  abbrev mid : State
  mid = record (state_of a) { own = d }

  abbrev z : InterfaceContent
  z = record { id = None; uses = us; exports = es }

  among : IsAmong (interface_key e) (state_of a).shared
  among = lookup-shared (class_of name) a.shared.entries e shared

  steps : IsGoodStep a.types (state_of a).shared d (state_of a).shared
  steps = met.on.steps (state_of a).shared may.kept.good

  run : RunsTaking (RemembersTruly class_of) f (state_of a) mid
  run = RunsTaking-step (RemembersTruly class_of) f (state_of a) d (state_of a).shared (λ h. steps) (λ h g k. RemembersTruly-step class_of g (state_of a) d (state_of a).shared steps.narrows steps.stops k)

  taken_named : AllStand a.types (interface_keys z)
  taken_named = interface_named class_of f (state_of a) may.kept p put.content (record { id = None; uses = us; exports = es }) put.taken

  taken_covered : Each (IsCovered a.types (state_of a).shared) (interface_keys z)
  taken_covered = interface_covered class_of f (state_of a) may.kept p put.content (record { id = None; uses = us; exports = es }) put.taken

  old_covered : Each (IsCovered a.types (state_of a).shared) (interface_keys old)
  old_covered = parts_covered a.types (state_of a).shared e old was (shared_covered (state_of a) may.kept (interface_key e) among)

  -- what the grown entry names, of each of the two
  named_by : (P : Key → Type 0) → Each P (named_keys use_keys old.uses) → Each P (named_keys use_keys us) → Each P (extern_keys new.exports) → Each P (interface_keys new)
  named_by P h g k = Each-append P (named_keys use_keys new.uses) (extern_keys new.exports) (uses P h g) k

  pub new_named : AllStand d (interface_keys new)
  new_named = named_by (Stands d)
      (AllStand-Extends a.types d met.on.grows (named_keys use_keys old.uses) (Each-left (Stands a.types) (named_keys use_keys old.uses) (extern_keys old.exports) old_named))
      (AllStand-Extends a.types d met.on.grows (named_keys use_keys us) (Each-left (Stands a.types) (named_keys use_keys us) (extern_keys es) taken_named))
      met.stand

  new_covered : Each (IsCovered d (state_of a).shared) (interface_keys new)
  new_covered = named_by (IsCovered d (state_of a).shared)
      (covered_on a.types d met.on (state_of a).shared may.kept.good (named_keys use_keys old.uses) (Each-left (Stands a.types) (named_keys use_keys old.uses) (extern_keys old.exports) old_named) (Each-left (IsCovered a.types (state_of a).shared) (named_keys use_keys old.uses) (extern_keys old.exports) old_covered))
      (covered_on a.types d met.on (state_of a).shared may.kept.good (named_keys use_keys us) (Each-left (Stands a.types) (named_keys use_keys us) (extern_keys es) taken_named) (Each-left (IsCovered a.types (state_of a).shared) (named_keys use_keys us) (extern_keys es) taken_covered))
      (met.covered (state_of a).shared may.kept.good (Each-right (IsCovered a.types (state_of a).shared) (named_keys use_keys old.uses) (extern_keys old.exports) old_covered) (Each-right (IsCovered a.types (state_of a).shared) (named_keys use_keys us) (extern_keys es) taken_covered))

  old_stands : Stands a.types (interface_key e)
  old_stands = shared_stands (state_of a) may.kept (interface_key e) among

  pub can : CanGrow d (state_of a).shared e old new
  can = record {
    is_shared = among;
    was = entry_of d e old (met.on.grows.same_entry (interface_key e) old_stands ∙ interface_at a.types e old was);
    same_identifier = same_id;
    named = new_named;
    covered = new_covered;
    exports = served_on a.types d met.on d new.exports old.exports (Each-right (Stands a.types) (named_keys use_keys old.uses) (extern_keys old.exports) old_named) met.serve_first;
  }

  pub Takes-grown : new.uses ≡ uses_of_both old.uses us → AreUnhidden es → AreUnhidden new.exports → (w : Collection) (n : Memo) → ¬ (NamesReach d (interface_keys new) (interface_key e)) → w ≡ grown d e new → AddsPair (memo_of a.taken) (memo_of n) (interface_key p) (interface_key e)
      → Takes f a (record a { types = w; taken = n }) (height f (interface_key p)) (interface_key p ∷ []) (λ t. IsTakenKey class_of f t (interface_key p) (interface_key e))
  Takes-grown uses_are found new_found w n acyclic is adds =
      let filed = may.filed.on_class (class_of name) e shared in
      let own_is : old.id ≡ Some filed.0 = sym (content_identifier a.types e old was) ∙ filed.1 in
      let theirs_is : put.content.id ≡ Some name = sym (content_identifier f p put.content put.taken.entry) ∙ identified in
      let t : State = state_of (record a { types = w; taken = n }) in
      let enters = grown_interface_enters class_of f mid (run.kept may.kept) p put.content z (interface_taken_still f (state_of a) mid may.kept run p put.content z put.taken) t e old new name filed.0 theirs_is own_is filed.2 can
      (served_on a.types d met.on d new.exports es (Each-right (Stands a.types) (named_keys use_keys us) (extern_keys es) taken_named) met.serve_second) acyclic is refl refl refl put.taken.stands.0 adds in
      let whole = RunsTaking-trans (RemembersTruly class_of) f (state_of a) mid t run enters.run in
      let settled : AddsSharedOrBelow (state_of a) t = λ k m stands at.
      let then = stood d (state_of a).shared e old new (run.kept may.kept).good can acyclic k (subst (λ c. Stands c k) is stands) in
      inl (met.on.identified k m then (sym ((enters.run.stops (run.kept may.kept)).identifiers k then) ∙ at)) in
      Takes-entered f a (record a { types = w; taken = n }) (interface_key p) (interface_key e) put.taken.sound put.taken.stands adds refl (AreFiledIn-run f (state_of a) t a.shared.entries may.kept refl whole may.filed) (λ k m. inl m) settled
      (λ all. absurd (not_known f a (interface_key p) name identified put.absent all))
      (interface_owners f (state_of a) put.taken.sound may.kept p put.content z put.taken) (record { run = whole; taken = enters.taken })
      (λ at trial all. grown_accounted at f (state_of a) p e put.content us es name filed.0 may.kept trial all put.taken put.used identified put.absent among filed.1 filed.2 old new was d met found uses_are new_found t old_named uses can acyclic is refl refl refl adds own_is)
