-- What stays of shared entries and imports while a call of a WIT list is made.
use Rattle.std.proofs.Common.{◌≡◌, ◌⊎◌, inl, inr, Bool, true, false, List, Option, Some, None, refl, ap, sym, ◌∙◌, subst}
use Rattle.wac_model.specs.Text.{Text}
use Rattle.wac_component.specs.Collection.{Collection}
use Rattle.wac_component.specs.Entries.{identifier_at}
use Rattle.wac_component.specs.Id.{Id}
use Rattle.wac_component.specs.Key.{Key, Each, Stands, AllStand, item_keys, interface_key}
use Rattle.wac_component.specs.Open.{stay}
use Rattle.wac_component.specs.Reach.{IsAmong}
use Rattle.wac_component.specs.Tree.{item_tree}
use Rattle.wac_component.specs.declared.items.ItemKind.TheVariants.{Instance}
use Rattle.wac_component.proofs.Among.{among_each, each_among}
use Rattle.wac_names.specs.Class.{Class, class_eq, class_of}
use Rattle.wac_names.proofs.Classes.{classes_decided}
use Rattle.wac_aggregator_narrowing.specs.Identified.{IsUnstopped, IsQuiet}
use Rattle.wac_aggregator_narrowing.specs.Narrows.{KeepsStops}
use Rattle.wac_aggregator_narrowing.specs.State.{State, IsStateKept}
use Rattle.wac_aggregator_narrowing.specs.Taking.{AreTakenKeys, one_key, no_keys}
use Rattle.wac_aggregator_promises.specs.Call.{Call, call_track}
use Rattle.wac_aggregator_promises.specs.Entries.{IsIdentifiedOn}
use Rattle.wac_aggregator_promises.specs.Shared.{TakenIds}
use Rattle.wac_aggregator_promises.proofs.Members.{one_track}
use Rattle.wac_aggregator_imports.specs.Import.{ImportContent, import_of, AreFiled}
use Rattle.wac_aggregator_reasons.proofs.Moving.{identifier_is}
use Rattle.wac_aggregator_taking.specs.Members.{HasTakenIn}
use Rattle.wac_aggregator_taking.specs.Takes.{shared_in, shared_keys, state_of, MayTake, IsOwnersImport}
use Rattle.wac_aggregator_taking.specs.declared.state.Merging.{Merging}
use Rattle.wac_aggregator_taking.proofs.Identifiers.{has_identifier}
use Rattle.wac_aggregator_taking.proofs.TakeLemmas.{lookup-shared, shared_stands}
use Rattle.wac_aggregator.specs.Wit.{AreUnstopped}
use Rattle.wac_aggregator.specs.Advances.{Advances}
use Rattle.wac_aggregator.proofs.Advancing.{placing, at_of, taken_kept, rest, run}
use Rattle.wac_aggregator.proofs.Leading.{placed_here, placed_other}

-- ---- tracks of shared entries

-- a shared entry is found on the track of its identifier
shared_on : (b : Merging) (taken : TakenIds) → HasTakenIn b taken → (s : Id) (t : Class) → IsAmong (interface_key s) (shared_keys b.shared.entries) → IsIdentifiedOn b.types s t → shared_in b.shared.entries t ≡ Some s
shared_on b taken has s t m on =
    let at = has.found s m in
    ap (shared_in b.shared.entries) (one_track b.types s t at.0 on (has.shared.identified at.0 s at.1)) ∙ at.1

-- identifiers stay on their tracks
still_on : (c d : Collection) (ss ts : List Key) → KeepsStops c ss d ts → (s : Id) (t : Class) → Stands c (interface_key s) → IsIdentifiedOn c s t → IsIdentifiedOn d s t
still_on c d ss ts keeps s t st on = record { name = on.name; identified = sym (identifier_is d s) ∙ keeps.identifiers (interface_key s) st ∙ identifier_is c s ∙ on.identified; on_track = on.on_track }

-- ---- where open walks don't stop

pub still_unstopped : (c d : Collection) (ss ts : List Key) → KeepsStops c ss d ts → (ks : List Key) → AllStand c ks → Each (IsUnstopped c) ks → Each (IsUnstopped d) ks
still_unstopped c d ss ts keeps ks st h = each_among (IsUnstopped d) ks (λ k m t n stops. among_each (IsUnstopped c) k ks m h t n (keeps.stops k t n (among_each (Stands c) k ks m st) stops))

-- what is quiet isn't identified itself
quiet_unidentified : (f : Collection) (k : Key) → IsQuiet f k → identifier_at f k ≡ None
quiet_unidentified f k quiet = by (identifier_at f k) refl
  where
    by : (o : Option Text) → identifier_at f k ≡ o → identifier_at f k ≡ None
    by None is = is
    by (Some n) is = absurd (quiet k n stay is)

-- what was taken in for ids that are quiet is unstopped
pub taken_unstopped : (f : Collection) (s : State) (is js : List Key) → AreTakenKeys class_of f s is js → Each (IsQuiet f) is → Each (IsUnstopped s.own) js
taken_unstopped f s _ _ no_keys q = tt
taken_unstopped f s _ _ (one_key {i = i} {is = is} {js = js} k others) q =
    (λ t n stops. (let o = (k.remembered.plain (quiet_unidentified f i q.0)).stops t n stops in q.0 o.at o.name o.walk o.identified), taken_unstopped f s is js others q.1)

-- ---- the tracks but the call's own, once the call was made

module _ (call : Call) (a b : Merging) (may : MayTake call.types a) (filed_a : AreFiled a.imports) (filed_b : AreFiled b.imports) (h : Advances call a b) (before after : TakenIds) (was : HasTakenIn a before) (has : HasTakenIn b after) where
  kept_then : IsStateKept (state_of h.taken)
  kept_then = taken_kept call a b may filed_a filed_b h

  same_shared : shared_keys b.shared.entries ≡ shared_keys h.taken.shared.entries
  same_shared = ap (λ (m : Merging). shared_keys m.shared.entries) h.same

  -- an entry that was shared once the item was taken in is found on its track, and so
  -- is one that was shared before
  pub found_on : (s : Id) (t : Class) → IsAmong (interface_key s) (shared_keys h.taken.shared.entries) → IsIdentifiedOn h.taken.types s t → shared_in b.shared.entries t ≡ Some s
  found_on s t m on = shared_on b after has s t (subst (IsAmong (interface_key s)) (sym same_shared) m)
      (still_on h.taken.types b.types (shared_keys h.taken.shared.entries) (shared_keys b.shared.entries) ((rest call a b may filed_a filed_b h).stops kept_then) s t (shared_stands (state_of h.taken) kept_then (interface_key s) m) on)

  keeps : KeepsStops a.types (shared_keys a.shared.entries) b.types (shared_keys b.shared.entries)
  keeps = (run call a b may filed_a filed_b h).stops may.kept

  pub still_shared : (s : Id) (t : Class) → shared_in a.shared.entries t ≡ Some s → shared_in b.shared.entries t ≡ Some s
  still_shared s t at = shared_on b after has s t (keeps.shared (interface_key s) (lookup-shared t a.shared.entries s at))
      (still_on a.types b.types (shared_keys a.shared.entries) (shared_keys b.shared.entries) keeps s t (was.shared.stands t s at) (was.shared.identified t s at))

  pub none_before : (t : Class) → shared_in b.shared.entries t ≡ None → shared_in a.shared.entries t ≡ None
  none_before t none = by (shared_in a.shared.entries t) refl
    where
      by : (o : Option Id) → shared_in a.shared.entries t ≡ o → shared_in a.shared.entries t ≡ None
      by None at = at
      by (Some s) at = absurd (let no : None ≡ Some s = sym none ∙ still_shared s t at in cc)

  -- an import of an owner is an instance of the shared entry on its track
  of_owner : (t : Class) (i : ImportContent) → class_of i.0 ≡ t → IsOwnersImport call.types (item_keys call.kind) h.taken t i → (s : Id) × (shared_in b.shared.entries t ≡ Some s) × (i.1 ≡ Instance s)
  of_owner t i on new = (new.entry, found_on new.entry t new.is_shared (record { name = i.0; identified = has_identifier h.taken.types (interface_key new.entry) i.0 new.named; on_track = on }), new.item)

  -- on another track than the call's stands what stood there, or an
  -- instance of the shared entry there
  pub on_other : (t : Class) (i : ImportContent) → class_eq (call_track call) t ≡ false → import_of b.imports t ≡ Some i → (import_of a.imports t ≡ Some i) ⊎ ((s : Id) × (shared_in b.shared.entries t ≡ Some s) × (i.1 ≡ Instance s))
  on_other t i other at =
      elim (h.takes.due t i (sym (placed_other a.imports h.taken.imports b.imports call.name h.import (placing call a b may filed_a filed_b h) h.takes.stays t other) ∙ at)) [
        | inl stood ↦ inl stood
        | inr new ↦ inr (of_owner t i (filed_b.imports t i at) new)
      ]

  -- on its own stands the call's import
  pub on_own : (t : Class) (i : ImportContent) → class_eq (call_track call) t ≡ true → import_of b.imports t ≡ Some i → (call_track call ≡ t) × (h.import ≡ i.1)
  on_own t i own at =
      let on = (classes_decided (call_track call) t).0 own in
      let p = placing call a b may filed_a filed_b h in
      let both : Some (p.as_name, h.import) ≡ Some i = sym (placed_here a.imports h.taken.imports b.imports call.name h.import p h.takes.stays) ∙ ap (import_of b.imports) on ∙ at in
      let same : (p.as_name, h.import) ≡ i = cc in
      (on, ap (λ (j : ImportContent). j.1) same)

  -- what stood there was imported
  pub stood_stands : (t : Class) (i : ImportContent) → import_of a.imports t ≡ Some i → AllStand a.types (item_keys i.1)
  stood_stands t i at = may.kept.imports i.0 i.1 (at_of a.imports i.0 i (ap (import_of a.imports) (filed_a.imports t i at) ∙ at))

  module _ (unstopped : AreUnstopped a) where
    -- an import from which no open walk stopped keeps its tree
    pub kept_tree : (t : Class) (i : ImportContent) → import_of a.imports t ≡ Some i → shared_in a.shared.entries t ≡ None → item_tree b.types i.1 ≡ item_tree a.types i.1
    kept_tree t i at none = keeps.quiet i.1 (stood_stands t i at) (unstopped t i at none)

    -- and none does still, if none does from the call's import
    pub unstopped_after : (shared_in b.shared.entries (call_track call) ≡ None → Each (IsUnstopped b.types) (item_keys h.import)) → AreUnstopped b
    unstopped_after own t i at none = by (class_eq (call_track call) t) refl
      where
        old : import_of a.imports t ≡ Some i → Each (IsUnstopped b.types) (item_keys i.1)
        old stood = still_unstopped a.types b.types (shared_keys a.shared.entries) (shared_keys b.shared.entries) keeps (item_keys i.1) (stood_stands t i stood) (unstopped t i stood (none_before t none))

        by : (x : Bool) → class_eq (call_track call) t ≡ x → Each (IsUnstopped b.types) (item_keys i.1)
        by true e = let o = on_own t i e at in subst (λ x. Each (IsUnstopped b.types) (item_keys x)) o.1 (own (ap (shared_in b.shared.entries) o.0 ∙ none))
        by false e = elim (on_other t i e at) [
          | inl stood ↦ old stood
          | inr s ↦ absurd (let no : None ≡ Some s.0 = sym none ∙ s.1 in cc)
        ]
