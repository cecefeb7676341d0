-- What is remembered truly stays so.
use Rattle.std.proofs.Common.{◌≡◌, List, [], Option, Some, None, refl, ap, sym, subst, ◌∙◌, ◌⊎◌, inl, inr}
use Rattle.std.specs.Option.{option_map_or}
use Rattle.wac_model.specs.Text.{Text}
use Rattle.wac_model.specs.ItemTree.{Kind, ItemTree}
use Rattle.wac_model.specs.Order.{Fits}
use Rattle.wac_component.specs.Collection.{Collection}
use Rattle.wac_component.specs.Growth.{Extends}
use Rattle.wac_component.specs.Key.{Key, Entry, entry_at, other_keys, optional_keys, Stands}
use Rattle.wac_component.specs.Reach.{IsAmong}
use Rattle.wac_component.specs.Sound.{IsSound}
use Rattle.wac_component.specs.Tree.{item_tree}
use Rattle.wac_component.specs.Open.{open_next, OpenReaches, stay, step}
use Rattle.wac_component.specs.Entries.{entry_identifier, identifier_at}
use Rattle.wac_aggregator_memo.specs.Memo.{AddsPair, Remembered}
use Rattle.wac_component.proofs.OpenWalks.{open_stands, opens_stand}
use Rattle.wac_merge.specs.Items.{entry_item}
use Rattle.wac_merge.proofs.ItemKeys.{each_entry_item}
use Rattle.wac_aggregator_narrowing.specs.Identified.{use_names, use_names_at, StopsAt, IsUnstopped, IsQuiet, OpenlyOn}
use Rattle.wac_aggregator_narrowing.specs.Narrows.{Narrows, KeepsStops}
use Rattle.wac_aggregator_narrowing.specs.Remembers.{IsSharedFor, IsRememberedAs, RemembersTruly}
use Rattle.wac_aggregator_narrowing.specs.Standing.{StandsFor, KeepsNames, IsCopy}
use Rattle.wac_aggregator_narrowing.specs.State.{State, IsOneWith}
use Rattle.wac_aggregator_narrowing.proofs.Running.{StandsFor-Narrows, IsCopy-step, pair_or_before}
use Rattle.wac_aggregator_narrowing.proofs.Stopping.{stops_was, stops_first}
use Rattle.wac_aggregator_narrowing.proofs.Adding.{identifier_kept, open_next_kept, opens_was}

-- each identified interface to which an id of g openly leads is remembered
abbrev ClosedAt : Collection → Remembered → Key → Type 0
ClosedAt g memo x = x.id.number ≡ g.number → (u : Key) (n : Text) → OpenReaches g x u → identifier_at g u ≡ Some n → (o : Key) × (memo u ≡ Some o)

module _ {T : Type 0} (track : Text → T) where
  -- what stands for an id stops where the id does, whether it is shared or plain
  pub part_stops : (f c : Collection) (ss : List Key) (theirs own : Key) → IsRememberedAs track f c ss theirs own → (t : Key) (n : Text) → StopsAt c own t n → OpenlyOn track f theirs (track n)
  part_stops f c ss theirs own h t n w = by_identifier (identifier_at f theirs) refl
    where
      at_shared : (m : Text) → identifier_at f theirs ≡ Some m → IsSharedFor track c ss own m → (identifier_at c own ≡ Some n) ⊎ ((identifier_at c own ≡ None) × (j : Key) × IsAmong j (open_next c own) × StopsAt c j t n) → OpenlyOn track f theirs (track n)
      at_shared m is r (inl q) = let same : n ≡ r.name = (let both : Some n ≡ Some r.name = sym q ∙ r.identified in cc) in
          record { at = theirs; name = m; walk = stay; identified = is; on_track = sym r.on_track ∙ ap track (sym same) }
      at_shared m is r (inr v) = let both : None ≡ Some r.name = sym v.0 ∙ r.identified in absurd (cc)

      by_identifier : (o : Option Text) → identifier_at f theirs ≡ o → OpenlyOn track f theirs (track n)
      by_identifier (Some m) is = at_shared m is (h.shared m is) (stops_first c own t n w)
      by_identifier None is = (h.plain is).stops t n w

  -- from the own entry of a quiet id no open walk stops
  pub quiet_unstopped : (f c : Collection) (ss : List Key) (theirs own : Key) → IsRememberedAs track f c ss theirs own → IsQuiet f theirs → IsUnstopped c own
  quiet_unstopped f c ss theirs own h q t n w = let r = part_stops f c ss theirs own h t n w in q r.at r.name r.walk r.identified

  -- the own collection changes by a step
  pub IsRememberedAs-step : (f c d : Collection) (ss ts : List Key) (theirs own : Key) → Narrows c ss d ts → KeepsStops c ss d ts → IsRememberedAs track f c ss theirs own → IsRememberedAs track f d ts theirs own
  IsRememberedAs-step f c d ss ts theirs own n k h = record {
    stands_for = StandsFor-Narrows f c d ss ts theirs own n h.stands_for;
    quiet = λ q x. k.quiet (entry_item x own) (each_entry_item (Stands c) x own h.stands_for.own_stands) (each_entry_item (IsUnstopped c) x own (quiet_unstopped f c ss theirs own h q)) ∙ h.quiet q x;
    shared = λ m is. let r = h.shared m is in record {
      is_shared = k.shared own r.is_shared;
      name = r.name;
      identified = k.identifiers own h.stands_for.own_stands ∙ r.identified;
      on_track = r.on_track;
    };
    plain = λ is. let r = h.plain is in record {
      plain = k.identifiers own h.stands_for.own_stands ∙ r.plain;
      uses = k.uses own h.stands_for.own_stands r.plain ∙ r.uses;
      stops = λ t m w. r.stops t m (k.stops own t m h.stands_for.own_stands w);
    };
  }

  pub RemembersTruly-step : (g : Collection) (s : State) (d : Collection) (ts : List Key) → Narrows s.own s.shared d ts → KeepsStops s.own s.shared d ts → RemembersTruly track g s → RemembersTruly track g (record s { own = d; shared = ts })
  RemembersTruly-step g s d ts n k t = record {
    taken = λ theirs own p q. IsRememberedAs-step g s.own d s.shared ts theirs own n k (t.taken theirs own p q);
    copies = λ theirs own p q. IsCopy-step g s.own d s.shared ts theirs own n k (t.copies theirs own p q);
    closed = t.closed;
  }

  -- one more id was taken in, and each identified interface to which it openly leads
  pub RemembersTruly-take : (f g : Collection) (s : State) (now : Remembered) (a b : Key) → IsOneWith f g → a.id.number ≡ f.number → AddsPair s.taken now a b → IsRememberedAs track f s.own s.shared a b
      → ((t : Key) (n : Text) → OpenReaches f a t → identifier_at f t ≡ Some n → (o : Key) × (now t ≡ Some o))
      → RemembersTruly track g s → RemembersTruly track g (record s { taken = now })
  RemembersTruly-take f g s now a b one number adds new closed t = record {
    taken = pair_or_before (λ x y. x.id.number ≡ g.number → IsRememberedAs track g s.own s.shared x y) s.taken now a b adds
        (λ q. subst (λ (e : Collection). IsRememberedAs track e s.own s.shared a b) (sym (one (sym q ∙ number))) new) t.taken;
    copies = t.copies;
    closed = λ theirs own u n p q. pair_or_before (λ x y. ClosedAt g now x) s.taken now a b adds new_closed old_closed theirs own p q u n;
  }
    where
      new_closed : ClosedAt g now a
      new_closed q u n =
          subst (λ (e : Collection). OpenReaches e a u → identifier_at e u ≡ Some n → (o : Key) × (now u ≡ Some o)) (sym (one (sym q ∙ number))) (closed u n)

      old_closed : (theirs own : Key) → s.taken theirs ≡ Some own → ClosedAt g now theirs
      old_closed theirs own p q u n w is = let r = t.closed theirs own u n p q w is in (r.0, adds.kept u r.0 r.1)

  pub RemembersTruly-copy : (f g : Collection) (s : State) (now : Remembered) (a b : Key) → IsOneWith f g → a.id.number ≡ f.number → AddsPair s.copies now a b → IsCopy f s.own s.shared a b → RemembersTruly track g s → RemembersTruly track g (record s { copies = now })
  RemembersTruly-copy f g s now a b one number adds new t = record {
    taken = t.taken;
    copies = pair_or_before (λ x y. x.id.number ≡ g.number → IsCopy g s.own s.shared x y) s.copies now a b adds
        (λ q. subst (λ (e : Collection). IsCopy e s.own s.shared a b) (sym (one (sym q ∙ number))) new) t.copies;
    closed = t.closed;
  }

-- the foreign collection is added to
module _ (f e : Collection) (s : IsSound f) (x : Extends f e) where
  opens_on : (k t : Key) → Stands f k → OpenReaches f k t → OpenReaches e k t
  opens_on k t st stay = stay
  opens_on k t st (step {j = j} m w) = step (subst (λ (ks : List Key). IsAmong j ks) (sym (open_next_kept f e s x k st)) m) (opens_on j t (open_stands f s k j st m) w)

  identified_on : (k t : Key) (n : Text) → Stands f k → OpenReaches f k t → identifier_at f t ≡ Some n → identifier_at e t ≡ Some n
  identified_on k t n st w is = identifier_kept f e s x t (opens_stand f s k t st w) ∙ is

  identified_was : (k t : Key) (n : Text) → Stands f k → OpenReaches e k t → identifier_at e t ≡ Some n → identifier_at f t ≡ Some n
  identified_was k t n st w is = sym (identifier_kept f e s x t (opens_stand f s k t st (opens_was f e s x k t st w))) ∙ is

  quiet_was : (k : Key) → Stands f k → IsQuiet e k → IsQuiet f k
  quiet_was k st q t n w is = q t n (opens_on k t st w) (identified_on k t n st w is)

  pub StandsFor-foreign : (c : Collection) (theirs own : Key) → StandsFor f c theirs own → StandsFor e c theirs own
  StandsFor-foreign c theirs own h = record {
    sort = h.sort;
    theirs_stands = x.standing theirs h.theirs_stands;
    own_stands = h.own_stands;
    fits = λ k. subst (λ (t : ItemTree). Fits (item_tree c (entry_item k own)) t) (sym (x.trees (entry_item k theirs) (each_entry_item (Stands f) k theirs h.theirs_stands))) (h.fits k);
  }

  openly_on : {T : Type 0} (track : Text → T) (k : Key) (on : T) → Stands f k → OpenlyOn track f k on → OpenlyOn track e k on
  openly_on track k on st h = record { at = h.at; name = h.name; walk = opens_on k h.at st h.walk; identified = identified_on k h.at h.name st h.walk h.identified; on_track = h.on_track }

  pub IsCopy-foreign : (c : Collection) (ss : List Key) (theirs own : Key) → IsCopy f c ss theirs own → IsCopy e c ss theirs own
  IsCopy-foreign c ss theirs own h =
      let st : Stands f theirs = h.theirs_stands in
      record {
        sort = h.sort;
        theirs_stands = x.standing theirs st;
        own_stands = h.own_stands;
        apart = h.apart;
        same = λ k. h.same k ∙ sym (x.trees (entry_item k theirs) (each_entry_item (Stands f) k theirs st));
        names = record {
          identifier = h.names.identifier ∙ sym (identifier_kept f e s x theirs st);
          uses = h.names.uses ∙ sym (ap (λ o. option_map_or use_names o []) (x.same_entry theirs st));
          stops = λ t n w. openly_on (λ (m : Text). m) theirs n st (h.names.stops t n w);
        };
      }

  module _ {T : Type 0} (track : Text → T) where
    pub IsRememberedAs-foreign : (c : Collection) (ss : List Key) (theirs own : Key) → IsRememberedAs track f c ss theirs own → IsRememberedAs track e c ss theirs own
    IsRememberedAs-foreign c ss theirs own h =
        let st : Stands f theirs = h.stands_for.theirs_stands in
        record {
          stands_for = StandsFor-foreign c theirs own h.stands_for;
          quiet = λ q k. h.quiet (quiet_was theirs st q) k ∙ sym (x.trees (entry_item k theirs) (each_entry_item (Stands f) k theirs st));
          shared = λ n is. h.shared n (sym (identifier_kept f e s x theirs st) ∙ is);
          plain = λ is. let r = h.plain (sym (identifier_kept f e s x theirs st) ∙ is) in record {
            plain = r.plain;
            uses = r.uses ∙ sym (ap (λ o. option_map_or use_names o []) (x.same_entry theirs st));
            stops = λ t n w. openly_on track theirs (track n) st (r.stops t n w);
          };
        }

    pub RemembersTruly-foreign : (t : State) → RemembersTruly track f t → RemembersTruly track e t
    RemembersTruly-foreign t h = record {
      taken = λ theirs own p q. IsRememberedAs-foreign t.own t.shared theirs own (h.taken theirs own p (q ∙ x.number));
      copies = λ theirs own p q. IsCopy-foreign t.own t.shared theirs own (h.copies theirs own p (q ∙ x.number));
      closed = λ theirs own u n p q w is.
          let st : Stands f theirs = (h.taken theirs own p (q ∙ x.number)).stands_for.theirs_stands in
          h.closed theirs own u n p (q ∙ x.number) (opens_was f e s x theirs u st w) (identified_was theirs u n st w is);
    }

-- what is new
module _ {T : Type 0} (track : Text → T) where
  pub openly_step : (f : Collection) (k j : Key) (on : T) → IsAmong j (open_next f k) → OpenlyOn track f j on → OpenlyOn track f k on
  openly_step f k j on m h = record { at = h.at; name = h.name; walk = step m h.walk; identified = h.identified; on_track = h.on_track }

  -- an entry of its own, without an identifier, whose parts stand for parts of the id
  pub plain_remembered : (f c d : Collection) (ss ts : List Key) (theirs own : Key) (z : Entry) → IsSound c → Extends c d → entry_at d own ≡ Some z
      → StandsFor f d theirs own → (IsQuiet f theirs → (k : Kind) → item_tree d (entry_item k own) ≡ item_tree f (entry_item k theirs))
      → identifier_at f theirs ≡ None → entry_identifier z ≡ None → use_names z ≡ use_names_at f theirs
      → ((j : Key) → IsAmong j (other_keys z) → (i : Key) × IsAmong i (open_next f theirs) × IsRememberedAs track f c ss i j)
      → IsRememberedAs track f d ts theirs own
  plain_remembered f c d ss ts theirs own z sound x at for quiet none z_none names parts = record {
    stands_for = for;
    quiet = quiet;
    shared = λ n is. let both : None ≡ Some n = sym none ∙ is in absurd (cc);
    plain = λ is. record { plain = own_none; uses = ap (λ o. option_map_or use_names o []) at ∙ names; stops = λ t n w. stops t n w };
  }
    where
      own_none : identifier_at d own ≡ None
      own_none = ap (λ o. option_map_or entry_identifier o None) at ∙ z_none

      onward : (t : Key) (n : Text) → (identifier_at d own ≡ Some n) ⊎ ((identifier_at d own ≡ None) × (j : Key) × IsAmong j (open_next d own) × StopsAt d j t n) → OpenlyOn track f theirs (track n)
      onward t n (inl is) = let both : None ≡ Some n = sym own_none ∙ is in absurd (cc)
      onward t n (inr v) =
          let p = parts v.1 (subst (λ (ks : List Key). IsAmong v.1 ks) (ap (optional_keys other_keys) at) v.2) in
          openly_step f theirs p.0 (track n) p.1 (part_stops track f c ss p.0 v.1 p.2 t n (stops_was c d sound x v.1 t n p.2.stands_for.own_stands v.3))

      stops : (t : Key) (n : Text) → StopsAt d own t n → OpenlyOn track f theirs (track n)
      stops t n w = onward t n (stops_first d own t n w)

  -- the shared entry on the track, grown or new
  pub shared_remembered : (f d : Collection) (ts : List Key) (theirs own : Key) (n m : Text) → StandsFor f d theirs own → IsAmong own ts → identifier_at f theirs ≡ Some n → identifier_at d own ≡ Some m → track m ≡ track n
      → IsRememberedAs track f d ts theirs own
  shared_remembered f d ts theirs own n m for shared theirs_is own_is same = record {
    stands_for = for;
    quiet = λ q. absurd (q theirs n stay theirs_is);
    shared = λ l is. let name : l ≡ n = (let both : Some l ≡ Some n = sym is ∙ theirs_is in cc) in
        record { is_shared = shared; name = m; identified = own_is; on_track = same ∙ ap track (sym name) };
    plain = λ is. let both : None ≡ Some n = sym is ∙ theirs_is in absurd (cc);
  }

-- an entry with the identifier of an id, which uses the same names, and whose parts are copies of
-- parts of the id
pub names_kept : (f c d : Collection) (ss : List Key) (theirs own : Key) (z : Entry) → IsSound c → Extends c d → entry_at d own ≡ Some z
    → entry_identifier z ≡ identifier_at f theirs → use_names z ≡ use_names_at f theirs
    → ((j : Key) → IsAmong j (other_keys z) → (i : Key) × IsAmong i (open_next f theirs) × IsCopy f c ss i j)
    → KeepsNames f d theirs own
names_kept f c d ss theirs own z sound x at identifier names parts = record {
  identifier = same;
  uses = ap (λ o. option_map_or use_names o []) at ∙ names;
  stops = λ t n w. onward t n (stops_first d own t n w);
}
  where
    same : identifier_at d own ≡ identifier_at f theirs
    same = ap (λ o. option_map_or entry_identifier o None) at ∙ identifier

    onward : (t : Key) (n : Text) → (identifier_at d own ≡ Some n) ⊎ ((identifier_at d own ≡ None) × (j : Key) × IsAmong j (open_next d own) × StopsAt d j t n) → OpenlyOn (λ (m : Text). m) f theirs n
    onward t n (inl is) = record { at = theirs; name = n; walk = stay; identified = sym same ∙ is; on_track = refl }
    onward t n (inr v) =
        let p = parts v.1 (subst (λ (ks : List Key). IsAmong v.1 ks) (ap (optional_keys other_keys) at) v.2) in
        openly_step (λ (m : Text). m) f theirs p.0 n p.1 (p.2.names.stops t n (stops_was c d sound x v.1 t n p.2.own_stands v.3))
