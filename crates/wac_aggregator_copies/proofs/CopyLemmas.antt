-- One copying after another.
use Rattle.std.proofs.Common.{◌≡◌, ◌≤◌, ◌⊎◌, ◌++◌, true, List, [], ◌∷◌, Option, Some, None, is_some, inl, inr, refl, ap, sym, subst, ◌∙◌, arith}
use Rattle.wac_component.specs.Collection.{Collection}
use Rattle.wac_aggregator_memo.specs.EntryOrder.{HasOwn, HasOwnOr, IsNeeded, root, onward, ArePartsFirst}
use Rattle.wac_component.specs.Growth.{Extends, with_entry}
use Rattle.wac_component.specs.Height.{height, keys_height}
use Rattle.wac_component.specs.Key.{Key, Entry, Each, Stands, AllStand, entry_keys, optional_keys, next, import_keys}
use Rattle.wac_aggregator_memo.specs.Memo.{AddsPair, memo_of}
use Rattle.wac_component.specs.Reach.{IsAmong, here, Reaches, stay, step}
use Rattle.wac_component.specs.Sound.{IsSound}
use Rattle.wac_aggregator_memo.specs.declared.memo.Memo.{Memo}
use Rattle.wac_component.proofs.Adding.{Extends-with_entry}
use Rattle.wac_component.proofs.Among.{among_each, each_among, among_left, among_right}
use Rattle.wac_component.proofs.Extended.{Extends-refl, Extends-trans}
use Rattle.wac_component.proofs.ImportKeys.{imports-apart}
use Rattle.wac_component.proofs.Keys.{Each-append, Each-map, largest-append}
use Rattle.wac_component.proofs.Last.{IsLast}
use Rattle.wac_aggregator_memo.proofs.Ordering.{needed_low}
use Rattle.wac_component.proofs.Returns.{Reaches-trans}
use Rattle.wac_names.specs.Class.{class_of}
use Rattle.wac_aggregator_narrowing.specs.Entering.{AddsCopy, IsCopiedInto}
use Rattle.wac_aggregator_narrowing.specs.Last.{last_key}
use Rattle.wac_aggregator_narrowing.specs.Remembers.{RemembersTruly}
use Rattle.wac_aggregator_narrowing.specs.State.{State, RunsTaking}
use Rattle.wac_aggregator_narrowing.specs.Taking.{IsCopiedKey, AreCopiedKeys}
use Rattle.wac_aggregator_narrowing.proofs.Adding.{last_at}
use Rattle.wac_aggregator_narrowing.proofs.Mapped.{paired_each, paired_of}
use Rattle.wac_aggregator_narrowing.proofs.Running.{RunsTaking-refl, RunsTaking-trans}
use Rattle.wac_aggregator_reasons.specs.Split.{IsLow, of_copy, StaySplit}
use Rattle.wac_aggregator_reasons.proofs.Splitting.{copy_splits, walk_on}
use Rattle.wac_aggregator_copies.specs.Copies.{IsState, MayCopy, moved, IsBelowCopy, Copies, NamesCopy, HasCopies}

-- a state with its own parts
moved-same : (f c : Collection) (m : Memo) (s : State) → IsState f c m s → moved s c m ≡ s
moved-same f c m s h = let o = h.own in let k = h.copies in λ i. record s { own = sym o i; copies = sym k i }

-- copies are low
pub copies_low : (f : Collection) (s : State) (is js : List Key) → AreCopiedKeys f s is js → Each (IsLow s) js
copies_low f s = paired_each (IsCopiedKey f s) (IsLow s) (λ i j h. of_copy i j h.noted stay)

-- the state runs on with a copy more, which names the copies of what the foreign entry names
pub record HasCopied (f : Collection) (s t : State) (theirs : Key) (z : Entry) : Type 0 where
  pub into : IsCopiedInto class_of f s t theirs (last_key s.own z)
  pub parts : AreCopiedKeys f s (next f theirs) (entry_keys z)

-- what is noted
pub noted_of : (o : Option Key) → is_some o ≡ true → (own : Key) × (o ≡ Some own)
noted_of None has = absurd (cc)
noted_of (Some own) has = (own, refl)

pub has_of : (m : Memo) (k own : Key) → memo_of m k ≡ Some own → HasOwn (memo_of m) k
has_of m k own is = ap (λ o. is_some o) is

-- what is below copies of some ids is so after more was copied, and below copies of more ids
below_on : (c d : Collection) (m n : Memo) (ks js : List Key) (k : Key) (h : IsBelowCopy c m ks k) → Reaches d h.copy k → ((theirs own : Key) → memo_of m theirs ≡ Some own → memo_of n theirs ≡ Some own) → IsAmong h.theirs js → IsBelowCopy d n js k
below_on c d m n ks js k h walk notes among = record {
  theirs = h.theirs;
  among = among;
  copy = h.copy;
  noted = notes h.theirs h.copy h.noted;
  walk = walk;
}

module _ (f : Collection) where
  -- what runs on from a state is one
  IsState-moved : (c d : Collection) (m n : Memo) (s : State) → IsState f c m s → RunsTaking (RemembersTruly class_of) f s (moved s d n) → IsState f d n (moved s d n)
  IsState-moved c d m n s h run = record { own = refl; copies = refl; kept = run.kept h.kept; truly = run.truly h.kept f (λ e. refl) h.truly }

  pub MayCopy-Copies : (c d : Collection) (m n : Memo) (ks : List Key) (Q : State → Type 0) → MayCopy f c m → Copies f c m d n ks Q → MayCopy f d n
  MayCopy-Copies c d m n ks Q may h = record { state = moved may.state d n; is = IsState-moved c d m n may.state may.is (h.runs may.state may.is).0 }

  -- what has a copy still has one
  pub still_has : (c d : Collection) (m n : Memo) (ks : List Key) (Q : State → Type 0) → MayCopy f c m → Copies f c m d n ks Q → (k : Key) → HasOwn (memo_of m) k → HasOwn (memo_of n) k
  still_has c d m n ks Q may h k has =
      let was = noted_of (memo_of m k) has in
      has_of n k was.0 ((h.runs may.state may.is).0.copies k was.0 ((λ i. may.is.copies i k) ∙ was.1))

  -- a fact of each state after it
  pub Copies-gives : (c d : Collection) (m n : Memo) (ks : List Key) (P : State → Type 0) → ((t : State) → IsState f d n t → P t) → Copies f c m d n ks (λ s. Unit {0}) → Copies f c m d n ks P
  Copies-gives c d m n ks P p h = record {
    low = h.low;
    grows = h.grows;
    added = h.added;
    runs = λ s is. let r = (h.runs s is).0 in (r, p (moved s d n) (IsState-moved c d m n s is r));
    splits = h.splits;
  }

  -- nothing is copied
  Copies-none : (c : Collection) (m : Memo) (ks : List Key) → Copies f c m c m ks (λ s. Unit {0})
  Copies-none c m ks = record {
    low = λ k above none. none;
    grows = λ s is. Extends-refl c;
    added = λ s is k stands. inl stands;
    runs = λ s is. (subst (λ t. RunsTaking (RemembersTruly class_of) f s t) (sym (moved-same f c m s is)) (RunsTaking-refl (RemembersTruly class_of) f s), tt);
    splits = λ s is. subst (λ t. StaySplit s t) (sym (moved-same f c m s is)) (record { opens = λ k st o. o; lows = λ k low. low });
  }

  pub HasCopies-had : (c : Collection) (m : Memo) (ks : List Key) → Each (HasOwn (memo_of m)) ks → HasCopies f c m c m ks
  HasCopies-had c m ks has = record { copies = Copies-none c m ks; has = has; named = λ k j had a. inl had }

  -- one after another
  module _ (c d e : Collection) (m n o : Memo) (ks js : List Key) where
    Copies-then : Copies f c m d n ks (λ s. Unit {0}) → Copies f d n e o js (λ s. Unit {0}) → Copies f c m e o (ks ++ js) (λ s. Unit {0})
    Copies-then g h = record {
      low = λ k above none. h.low k (omega (arith, largest-append (height f) ks js, above)) (g.low k (omega (arith, largest-append (height f) ks js, above)) none);
      grows = λ s is. Extends-trans c d e (g.grows s is) (h.grows (moved s d n) (IsState-moved c d m n s is (g.runs s is).0));
      added = λ s is k stands.
          let mid = IsState-moved c d m n s is (g.runs s is).0 in
          elim (h.added (moved s d n) mid k stands) [
            | inl then ↦ elim (g.added s is k then) [
              | inl was ↦ inl was
              | inr new ↦ inr (below_on d e n o ks (ks ++ js) k new (walk_on d e mid.kept.good.sound (h.grows (moved s d n) mid) new.copy k (mid.kept.copies new.theirs new.copy new.noted).0 new.walk) (h.runs (moved s d n) mid).0.copies (among_left ks js new.among))
            ]
            | inr new ↦ inr (below_on e e o o js (ks ++ js) k new new.walk (λ theirs own noted. noted) (among_right ks js new.among))
          ];
      runs = λ s is.
          let r = (g.runs s is).0 in
          (RunsTaking-trans (RemembersTruly class_of) f s (moved s d n) (moved s e o) r (h.runs (moved s d n) (IsState-moved c d m n s is r)).0, tt);
      splits = λ s is.
          let r = (g.runs s is).0 in
          let first = g.splits s is in
          let then = h.splits (moved s d n) (IsState-moved c d m n s is r) in
          record { opens = λ k st o. then.opens k ((r.narrows is.kept).standing k st) (first.opens k st o); lows = λ k low. then.lows k (first.lows k low) };
    }

    pub HasCopies-then : MayCopy f c m → HasCopies f c m d n ks → HasCopies f d n e o js → HasCopies f c m e o (ks ++ js)
    HasCopies-then may g h = record {
      copies = Copies-then g.copies h.copies;
      has = Each-append (HasOwn (memo_of o)) ks js (Each-map (HasOwn (memo_of n)) (HasOwn (memo_of o)) (still_has d e n o js (λ s. Unit {0}) mid h.copies) ks g.has) h.has;
      named = λ k j has a. elim (h.named k j has a) [
        | inl then ↦ elim (g.named k j then a) [ inl had ↦ inl had | inr new ↦ inr (kept k j new) ]
        | inr new ↦ inr new
      ];
    }
      where
        mid : MayCopy f d n
        mid = MayCopy-Copies c d m n ks (λ s. Unit {0}) may g.copies

        kept : (k j : Key) → NamesCopy d n k j → NamesCopy e o k j
        kept k j new =
            let s = mid.state in
            let notes : (i x : Key) → memo_of n i ≡ Some x → memo_of o i ≡ Some x = λ i x is. (h.copies.runs s mid.is).0.copies i x ((λ t. mid.is.copies t i) ∙ is) in
            let stands : Stands d new.copy = subst (λ b. Stands b new.copy) mid.is.own (mid.is.kept.copies k new.copy ((λ t. mid.is.copies t k) ∙ new.noted)).0 in
            let same = ap (optional_keys entry_keys) ((h.copies.grows s mid.is).same_entry new.copy stands) in
            record {
              copy = new.copy;
              part = new.part;
              noted = notes k new.copy new.noted;
              part_noted = notes j new.part new.part_noted;
              named = subst (IsAmong new.part) (sym same) new.named;
            }

  -- once its parts were copied, a copy is added and noted
  module _ (c e : Collection) (m o : Memo) (theirs own : Key) (z : Entry) (number : theirs.id.number ≡ f.number) (added : e ≡ with_entry c z) (last : own ≡ last_key c z) (adds : AddsPair (memo_of m) (memo_of o) theirs own)
      (enters : (s t : State) → IsState f c m s → AddsCopy f s t theirs z → HasCopied f s t theirs z) where
    -- a state, with its own parts put in
    own_state : (s : State) → IsState f c m s → IsState f c m (moved s c m)
    own_state s is = subst (IsState f c m) (sym (moved-same f c m s is)) is

    copied : (s : State) → IsState f c m s → HasCopied f (moved s c m) (moved s e o) theirs z
    copied s is = enters (moved s c m) (moved s e o) (own_state s is) record { own = added; shared = refl; imports = refl; taken = refl; number = number; remembers = subst (AddsPair (memo_of m) (memo_of o) theirs) last adds }

    at_last : IsLast c e z own
    at_last = subst (λ k. IsLast c e z k) (sym last) (subst (λ d. IsLast c d z (last_key c z)) (sym added) (last_at c z))

    new_or_noted : (k x : Key) → memo_of o k ≡ Some x → (k ≡ theirs) ⊎ (memo_of m k ≡ Some x)
    new_or_noted k x is = elim (adds.only k x is) [ inl same ↦ inl same.0 | inr had ↦ inr had ]

    still_none : (k : Key) → ¬ (k ≡ theirs) → memo_of m k ≡ None → (x : Option Key) → memo_of o k ≡ x → memo_of o k ≡ None
    still_none k other absent None at = at
    still_none k other absent (Some x) at = elim (new_or_noted k x at) [ inl same ↦ absurd (other same) | inr had ↦ absurd (let both : None ≡ Some x = sym absent ∙ had in cc) ]

    Copies-enter : Copies f c m e o (theirs ∷ []) (λ s. Unit {0})
    Copies-enter = record {
      low = λ k above absent. still_none k (λ same. omega (arith, above, ap (height f) same)) absent (memo_of o k) refl;
      grows = λ s is. subst (Extends c) (sym added) (Extends-with_entry c z (subst IsSound is.own is.kept.good.sound));
      added = λ s is k stands. elim (at_last.others k stands) [
        | inl was ↦ inl was
        | inr same ↦ inr (record { theirs = theirs; among = here; copy = own; noted = adds.is; walk = subst (Reaches e own) (sym same) stay })
      ];
      runs = λ s is. (subst (λ t. RunsTaking (RemembersTruly class_of) f t (moved s e o)) (moved-same f c m s is) (copied s is).into.run, tt);
      splits = λ s is. subst (λ t. StaySplit t (moved s e o)) (moved-same f c m s is) (
          let u : State = moved s c m in
          let parts = (copied s is).parts in
          let low : Each (IsLow u) (entry_keys z) = copies_low f u (next f theirs) (entry_keys z) parts in
          let stand : AllStand u.own (entry_keys z) = paired_each (IsCopiedKey f u) (Stands u.own) (λ i j k. k.copy.own_stands) (next f theirs) (entry_keys z) parts in
          copy_splits u (moved s e o) (own_state s is).kept z added stand (each_among (IsLow u) (import_keys z) (λ j q. among_each (IsLow u) j (entry_keys z) ((imports-apart z j).1 (inl q)) low)) theirs (subst (AddsPair (memo_of m) (memo_of o) theirs) last adds) low);
    }

    names_new : (s : State) → IsState f c m s → (j : Key) → IsAmong j (next f theirs) → NamesCopy e o theirs j
    names_new s is j a =
        let part = paired_of (IsCopiedKey f (moved s c m)) (next f theirs) (entry_keys z) j (copied s is).parts a in
        record {
          copy = own;
          part = part.0;
          noted = adds.is;
          part_noted = adds.kept j part.0 part.2.noted;
          named = subst (IsAmong part.0) (sym (ap (optional_keys entry_keys) at_last.at)) part.1;
        }

    pub HasCopies-enter : MayCopy f c m → HasCopies f c m e o (theirs ∷ [])
    HasCopies-enter may = record {
      copies = Copies-enter;
      has = (has_of o theirs own adds.is, tt);
      named = λ k j has a.
          let noted = noted_of (memo_of o k) has in
          elim (new_or_noted k noted.0 noted.1) [
            | inl same ↦ inr (subst (λ i. NamesCopy e o i j) (sym same) (names_new may.state may.is j (subst (λ i. IsAmong j (next f i)) same a)))
            | inr had ↦ inl (has_of m k noted.0 had)
          ];
    }

  -- what was copied before, or now, has a copy
  pub parts_copied : (c d : Collection) (m n : Memo) (ks : List Key) → MayCopy f c m → HasCopies f c m d n ks → (js : List Key) → Each (HasOwnOr (memo_of m) ks) js → Each (HasOwn (memo_of n)) js
  parts_copied c d m n ks may h js = Each-map (HasOwnOr (memo_of m) ks) (HasOwn (memo_of n)) (λ k p. elim p [
    | inl had ↦ still_has c d m n ks (λ s. Unit {0}) may h.copies k had
    | inr new ↦ among_each (HasOwn (memo_of n)) k ks new h.has
  ]) js

  -- the order of what is to be copied
  module _ (c d : Collection) (m n : Memo) (ids order : List Key) (sound : IsSound f) (stand : AllStand f ids) (is : ArePartsFirst f (memo_of m) ids order) (may : MayCopy f c m) (h : HasCopies f c m d n order) where
    has_copies : Each (HasOwn (memo_of n)) ids
    has_copies = parts_copied c d m n order may h ids is.has

    -- what is needed has a copy, which is below those of the ids
    needed_below : (k : Key) → IsNeeded f (memo_of m) ids k → (copy : Key) × (memo_of n k ≡ Some copy) × IsBelowCopy d n ids copy
    needed_below k (root a) =
        let noted = noted_of (memo_of n k) (among_each (HasOwn (memo_of n)) k ids a has_copies) in
        (noted.0, noted.1, record { theirs = k; among = a; copy = noted.0; noted = noted.1; walk = stay })
    needed_below k (onward {j = j} none a w) =
        let above = needed_below j w in
        elim (h.named j k (has_of n j above.0 above.1) a) [
          | inl had ↦ absurd (let both = noted_of (memo_of m j) had in let no : None ≡ Some both.0 = sym none ∙ both.1 in cc)
          | inr new ↦
              let one : Some new.copy ≡ Some above.0 = sym new.noted ∙ above.1 in
              let same : new.copy ≡ above.0 = cc in
              let below = above.2 in
              (new.part, new.part_noted, record { theirs = below.theirs; among = below.among; copy = below.copy; noted = below.noted; walk = Reaches-trans d below.copy above.0 new.part below.walk (step (subst (λ i. IsAmong new.part (next d i)) same new.named) stay) })
        ]

    order_low : (ks : List Key) → Each (IsNeeded f (memo_of m) ids) ks → keys_height f ks ≤ keys_height f ids
    order_low [] w = omega arith
    order_low (k ∷ ks) w = omega (arith, needed_low f (memo_of m) ids sound stand k w.0, order_low ks w.1)

    pub HasCopies-ordered : HasCopies f c m d n ids
    HasCopies-ordered = record {
      copies = record {
        low = λ k above none. h.copies.low k (omega (arith, order_low order is.needed, above)) none;
        grows = h.copies.grows;
        added = λ s at k stands. elim (h.copies.added s at k stands) [
          | inl was ↦ inl was
          | inr new ↦ inr (
              let below = needed_below new.theirs (among_each (IsNeeded f (memo_of m) ids) new.theirs order new.among is.needed) in
              let one : Some below.0 ≡ Some new.copy = sym below.1 ∙ new.noted in
              let same : below.0 ≡ new.copy = cc in
              let up = below.2 in
              record { theirs = up.theirs; among = up.among; copy = up.copy; noted = up.noted; walk = Reaches-trans d up.copy new.copy k (subst (Reaches d up.copy) same up.walk) new.walk })
        ];
        runs = h.copies.runs;
        splits = h.copies.splits;
      };
      has = has_copies;
      named = h.named;
    }
