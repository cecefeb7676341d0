-- What was taken in stays so, and so do lists of named items.
use Rattle.std.proofs.Common.{◌≡◌, List, [], ◌∷◌, ◌++◌, Bool, true, false, cond, Option, Some, None, refl, sym, ◌∙◌}
use Rattle.std.specs.Str.{bytes_eq}
use Rattle.wac_model.specs.Text.{Text, lookup}
use Rattle.wac_model.specs.CoreTree.{Serves}
use Rattle.wac_model.specs.ItemTree.{Kind}
use Rattle.wac_model.specs.Order.{Fits}
use Rattle.wac_model.proofs.ItemOrder.{Fits-trans}
use Rattle.wac_component.specs.Collection.{Collection}
use Rattle.wac_component.specs.Growth.{Extends}
use Rattle.wac_component.specs.Key.{Key, Entry, entry_at, other_keys, item_keys, named_keys, Each, Stands, AllStand}
use Rattle.wac_component.specs.Reach.{IsAmong, here, there}
use Rattle.wac_component.specs.Sound.{IsSound}
use Rattle.wac_component.specs.Tree.{item_tree, items_of}
use Rattle.wac_component.specs.declared.items.ItemKind.{ItemKind}
use Rattle.wac_component.specs.Entries.{entry_identifier, identifier_at}
use Rattle.wac_aggregator_memo.specs.Memo.{Remembered}
use Rattle.wac_component.specs.Open.{open_next, stay, step}
use Rattle.wac_component.proofs.Keys.{Each-left, Each-right, Each-append}
use Rattle.wac_component.proofs.Among.{each_found}
use Rattle.wac_checker_parts.specs.Externs.{AreServed}
use Rattle.wac_merge.specs.Items.{entry_item}
use Rattle.wac_aggregator_narrowing.specs.Identified.{use_names, use_names_at, IsUnstopped, IsQuiet}
use Rattle.wac_aggregator_narrowing.specs.Narrows.{Narrows}
use Rattle.wac_aggregator_narrowing.specs.Remembers.{IsRememberedAs}
use Rattle.wac_aggregator_narrowing.specs.Standing.{StandsFor}
use Rattle.wac_aggregator_narrowing.specs.State.{State, IsStateKept, RunsTaking}
use Rattle.wac_aggregator_narrowing.specs.Taking.{IsClosedIn, IsTakenKey, IsCopiedKey, AreKeysPaired, AreTakenKeys, AreCopiedKeys, no_keys, one_key, IsTakenItem, IsCopiedItem, AreMapped, none, one}
use Rattle.wac_aggregator_narrowing.proofs.Adding.{Narrows-all_stand, Narrows-all_apart}
use Rattle.wac_aggregator_narrowing.proofs.Remembered.{IsRememberedAs-step, quiet_unstopped, plain_remembered}
use Rattle.wac_aggregator_narrowing.proofs.Running.{IsCopy-step}

module _ {V W : Type 0} where
  pub mapped_more : (R Q : V → W → Type 0) → ((x : V) (y : W) → R x y → Q x y) → (xs : List (Text × V)) (ys : List (Text × W)) → AreMapped R xs ys → AreMapped Q xs ys
  mapped_more R Q f xs ys none = none
  mapped_more R Q f xs ys (one {x = x} {y = y} {xs = us} {ys = vs} h m) = one (f x y h) (mapped_more R Q f us vs m)

  pub mapped_last : (R : V → W → Type 0) (xs : List (Text × V)) (ys : List (Text × W)) (n : Text) (x : V) (y : W) → AreMapped R xs ys → R x y → AreMapped R (xs ++ (n, x) ∷ []) (ys ++ (n, y) ∷ [])
  mapped_last R xs ys n x y none h = one h none
  mapped_last R xs ys n x y (one {xs = us} {ys = vs} g m) h = one g (mapped_last R us vs n x y m h)

  -- a fact of each value's ids is one of all
  pub mapped_keys : (R : V → W → Type 0) (g : W → List Key) (P : Key → Type 0) → ((x : V) (y : W) → R x y → Each P (g y)) → (xs : List (Text × V)) (ys : List (Text × W)) → AreMapped R xs ys → Each P (named_keys g ys)
  mapped_keys R g P f xs ys none = tt
  mapped_keys R g P f xs ys (one {x = x} {y = y} {xs = us} {ys = vs} h m) = Each-append P (g y) (named_keys g vs) (f x y h) (mapped_keys R g P f us vs m)

-- from own entries of quiet ids no open walk stops
quiet_keys : {T : Type 0} (track : Text → T) (f : Collection) (s : State) (is js : List Key) → AreTakenKeys track f s is js → Each (IsQuiet f) is → Each (IsUnstopped s.own) js
quiet_keys track f s is js no_keys q = tt
quiet_keys track f s is js (one_key {i = i} {j = j} {is = ps} {js = bs} h m) q = (quiet_unstopped track f s.own s.shared i j h.remembered q.0, quiet_keys track f s ps bs m q.1)

-- ids that are paired one by one
module _ (R : Key → Key → Type 0) where
  pub paired_more : (Q : Key → Key → Type 0) → ((i j : Key) → R i j → Q i j) → (is js : List Key) → AreKeysPaired R is js → AreKeysPaired Q is js
  paired_more Q f is js no_keys = no_keys
  paired_more Q f is js (one_key {i = i} {j = j} {is = ps} {js = bs} h m) = one_key (f i j h) (paired_more Q f ps bs m)

  pub paired_append : (is js ks ls : List Key) → AreKeysPaired R is js → AreKeysPaired R ks ls → AreKeysPaired R (is ++ ks) (js ++ ls)
  paired_append is js ks ls no_keys g = g
  paired_append is js ks ls (one_key {is = ps} {js = bs} h m) g = one_key h (paired_append ps bs ks ls m g)

  -- the ids in named values
  pub paired_named : {V W : Type 0} (Q : V → W → Type 0) (a : V → List Key) (b : W → List Key) → ((x : V) (y : W) → Q x y → AreKeysPaired R (a x) (b y)) → (xs : List (Text × V)) (ys : List (Text × W)) → AreMapped Q xs ys → AreKeysPaired R (named_keys a xs) (named_keys b ys)
  paired_named Q a b h xs ys none = no_keys
  paired_named Q a b h xs ys (one {x = x} {y = y} {xs = us} {ys = vs} g m) = paired_append (a x) (b y) (named_keys a us) (named_keys b vs) (h x y g) (paired_named Q a b h us vs m)

  pub paired_each : (P : Key → Type 0) → ((i j : Key) → R i j → P j) → (is js : List Key) → AreKeysPaired R is js → Each P js
  paired_each P h is js no_keys = tt
  paired_each P h is js (one_key {i = i} {j = j} {is = ps} {js = bs} g m) = (h i j g, paired_each P h ps bs m)

  -- what an id of the second list is paired with, and one of the first
  pub paired_at : (is js : List Key) (j : Key) → AreKeysPaired R is js → IsAmong j js → (i : Key) × IsAmong i is × R i j
  paired_at is js j no_keys m = elim m [ ]
  paired_at is js j (one_key {i = i} {j = k} {is = ps} {js = bs} h others) m = first j m h (paired_at ps bs j others)
    where
      first : (j : Key) → IsAmong j (k ∷ bs) → R i k → (IsAmong j bs → (a : Key) × IsAmong a ps × R a j) → (a : Key) × IsAmong a (i ∷ ps) × R a j
      first _ here h later = (i, here, h)
      first j (there n) h later = let r = later n in (r.0, there r.1, r.2)

  pub paired_of : (is js : List Key) (i : Key) → AreKeysPaired R is js → IsAmong i is → (j : Key) × IsAmong j js × R i j
  paired_of is js i no_keys m = elim m [ ]
  paired_of is js i (one_key {i = k} {j = j} {is = ps} {js = bs} h others) m = first i m h (paired_of ps bs i others)
    where
      first : (i : Key) → IsAmong i (k ∷ ps) → R k j → (IsAmong i ps → (b : Key) × IsAmong b bs × R i b) → (b : Key) × IsAmong b (j ∷ bs) × R i b
      first _ here h later = (j, here, h)
      first i (there n) h later = let r = later n in (r.0, there r.1, r.2)

-- in every run
module _ {T : Type 0} (track : Text → T) (f : Collection) (s t : State) (kept : IsStateKept s) (IsTrue : Collection → State → Type 0) (e : Collection) (run : RunsTaking IsTrue e s t) where
  closed_still : (theirs : Key) → IsClosedIn f s.taken theirs → IsClosedIn f t.taken theirs
  closed_still theirs h u n w is = let r = h u n w is in (r.0, run.taken u r.0 r.1)

  pub taken_key_still : (theirs own : Key) → IsTakenKey track f s theirs own → IsTakenKey track f t theirs own
  taken_key_still theirs own h = record {
    remembered = IsRememberedAs-step track f s.own t.own s.shared t.shared theirs own (run.narrows kept) (run.stops kept) h.remembered;
    noted = run.taken theirs own h.noted;
    covered = (run.stops kept).covered own h.remembered.stands_for.own_stands h.covered;
    closed = closed_still theirs h.closed;
  }

  pub taken_keys_still : (is js : List Key) → AreTakenKeys track f s is js → AreTakenKeys track f t is js
  taken_keys_still = paired_more (IsTakenKey track f s) (IsTakenKey track f t) taken_key_still

  pub copied_key_still : (theirs own : Key) → IsCopiedKey f s theirs own → IsCopiedKey f t theirs own
  copied_key_still theirs own h = record {
    copy = IsCopy-step f s.own t.own s.shared t.shared theirs own (run.narrows kept) (run.stops kept) h.copy;
    noted = run.copies theirs own h.noted;
  }

  pub copied_keys_still : (is js : List Key) → AreCopiedKeys f s is js → AreCopiedKeys f t is js
  copied_keys_still = paired_more (IsCopiedKey f s) (IsCopiedKey f t) copied_key_still

  pub taken_item_still : (x y : ItemKind) → IsTakenItem track f s x y → IsTakenItem track f t x y
  taken_item_still x y h = record {
    stands = Narrows-all_stand s.own t.own s.shared t.shared (run.narrows kept) (item_keys y) h.stands;
    fits = Fits-trans (item_tree t.own y) (item_tree s.own y) (item_tree f x) ((run.narrows kept).fits y h.stands) h.fits;
    quiet = λ q. (run.stops kept).quiet y h.stands (quiet_keys track f s (item_keys x) (item_keys y) h.keys q) ∙ h.quiet q;
    keys = taken_keys_still (item_keys x) (item_keys y) h.keys;
  }

  pub copied_item_still : (x y : ItemKind) → IsCopiedItem f s x y → IsCopiedItem f t x y
  copied_item_still x y h = record {
    stands = Narrows-all_stand s.own t.own s.shared t.shared (run.narrows kept) (item_keys y) h.stands;
    apart = Narrows-all_apart s.own t.own s.shared t.shared (run.narrows kept) (item_keys y) h.stands h.apart;
    keys = copied_keys_still (item_keys x) (item_keys y) h.keys;
    same = (run.narrows kept).same y h.stands h.apart ∙ h.same;
  }

-- what serves what serves names serves them
pub AreServed-trans : (c d e : Collection) (xs ys zs : List (Text × ItemKind)) → AreServed c d xs ys → AreServed d e ys zs → AreServed c e xs zs
AreServed-trans c d e xs ys zs h k n = at (lookup bytes_eq xs n) (lookup bytes_eq ys n) (lookup bytes_eq zs n) (h n) (k n)
  where
    at : (a b o : Option ItemKind) → Serves (λ x y. Fits (item_tree c x) (item_tree d y)) a b → Serves (λ x y. Fits (item_tree d x) (item_tree e y)) b o → Serves (λ x y. Fits (item_tree c x) (item_tree e y)) a o
    at a b None p q = tt
    at a None (Some z) p q = absurd q
    at None (Some y) (Some z) p q = absurd p
    at (Some x) (Some y) (Some z) p q = Fits-trans (item_tree c x) (item_tree d y) (item_tree e z) p q

-- names that were served are so still
pub served_names_still : (f c d : Collection) (ss ts : List Key) (es fs : List (Text × ItemKind)) → Narrows c ss d ts → AllStand c (named_keys item_keys es) → AreServed c f es fs → AreServed d f es fs
served_names_still f c d ss ts es fs n st h m = at (lookup bytes_eq es m) (lookup bytes_eq fs m) (λ y is. n.fits y (each_found (Stands c) es m y is st)) (h m)
  where
    at : (a b : Option ItemKind) → ((y : ItemKind) → a ≡ Some y → Fits (item_tree d y) (item_tree c y)) → Serves (λ x y. Fits (item_tree c x) (item_tree f y)) a b → Serves (λ x y. Fits (item_tree d x) (item_tree f y)) a b
    at a None fit k = tt
    at None (Some y) fit k = absurd k
    at (Some x) (Some y) fit k = Fits-trans (item_tree d x) (item_tree c x) (item_tree f y) (fit x refl) k

-- an id is closed where its parts are, and it is itself remembered if it is identified
pub closed_by_parts : (f : Collection) (now : Remembered) (theirs : Key) → ((n : Text) → identifier_at f theirs ≡ Some n → (o : Key) × (now theirs ≡ Some o)) → ((i : Key) → IsAmong i (open_next f theirs) → IsClosedIn f now i) → IsClosedIn f now theirs
closed_by_parts f now theirs self parts t n stay is = self n is
closed_by_parts f now theirs self parts t n (step {j = j} m w) is = parts j m t n w is

module _ {T : Type 0} (track : Text → T) (f : Collection) (s : State) where
  -- the ids of the one list, one by one with those of the other
  pub taken_at : (is js : List Key) (j : Key) → AreTakenKeys track f s is js → IsAmong j js → (i : Key) × IsAmong i is × IsTakenKey track f s i j
  taken_at = paired_at (IsTakenKey track f s)

  pub taken_of : (is js : List Key) (i : Key) → AreTakenKeys track f s is js → IsAmong i is → (j : Key) × IsAmong j js × IsTakenKey track f s i j
  taken_of = paired_of (IsTakenKey track f s)

  pub taken_append : (is js ks ls : List Key) → AreTakenKeys track f s is js → AreTakenKeys track f s ks ls → AreTakenKeys track f s (is ++ ks) (js ++ ls)
  taken_append = paired_append (IsTakenKey track f s)

  -- the ids in named values that were taken in
  pub taken_named : {V W : Type 0} (R : V → W → Type 0) (a : V → List Key) (b : W → List Key) → ((x : V) (y : W) → R x y → AreTakenKeys track f s (a x) (b y)) → (xs : List (Text × V)) (ys : List (Text × W)) → AreMapped R xs ys → AreTakenKeys track f s (named_keys a xs) (named_keys b ys)
  taken_named R a b h xs ys m = paired_named (IsTakenKey track f s) R a b h xs ys m

  pub taken_each : (P : Key → Type 0) → ((i j : Key) → IsTakenKey track f s i j → P j) → (is js : List Key) → AreTakenKeys track f s is js → Each P js
  taken_each = paired_each (IsTakenKey track f s)

  pub closed_by_taken : (theirs : Key) (js : List Key) → identifier_at f theirs ≡ None → AreTakenKeys track f s (open_next f theirs) js → IsClosedIn f s.taken theirs
  closed_by_taken theirs js plain parts =
      closed_by_parts f s.taken theirs (λ n is. let both : None ≡ Some n = sym plain ∙ is in absurd (cc)) (λ i m. (taken_of (open_next f theirs) js i parts m).2.closed)

  -- a new entry without identifier, whose ids are those of the
  -- foreign entry, taken in one by one
  pub plain_taken : (d : Collection) (theirs own : Key) (z : Entry) → IsSound s.own → Extends s.own d → entry_at d own ≡ Some z → StandsFor f d theirs own
      → (IsQuiet f theirs → (k : Kind) → item_tree d (entry_item k own) ≡ item_tree f (entry_item k theirs))
      → identifier_at f theirs ≡ None → entry_identifier z ≡ None → use_names z ≡ use_names_at f theirs → AreTakenKeys track f s (open_next f theirs) (other_keys z)
      → IsRememberedAs track f d s.shared theirs own
  plain_taken d theirs own z sound x at for quiet plain z_plain names parts =
      plain_remembered track f s.own d s.shared s.shared theirs own z sound x at for quiet plain z_plain names
      (λ j m. let r = taken_at (open_next f theirs) (other_keys z) j parts m in (r.0, r.1, r.2.remembered))

-- items taken in serve the names of the foreign ones, and the other way round
pub mapped_served : (f c : Collection) (xs ys : List (Text × ItemKind)) → AreMapped (λ x y. Fits (item_tree c y) (item_tree f x)) xs ys → AreServed c f ys xs
mapped_served f c xs ys none n = tt
mapped_served f c xs ys (one {n = m} {x = x} {y = y} {xs = us} {ys = vs} h others) n = by_test (bytes_eq n m) (mapped_served f c us vs others n)
  where
    by_test : (b : Bool) → Serves (λ a d. Fits (item_tree c a) (item_tree f d)) (lookup bytes_eq vs n) (lookup bytes_eq us n)
        → Serves (λ a d. Fits (item_tree c a) (item_tree f d)) (cond b (Some y) (lookup bytes_eq vs n)) (cond b (Some x) (lookup bytes_eq us n))
    by_test true rest = h
    by_test false rest = rest

pub mapped_asked : (f c : Collection) (xs ys : List (Text × ItemKind)) → AreMapped (λ x y. Fits (item_tree f x) (item_tree c y)) xs ys → AreServed f c xs ys
mapped_asked f c xs ys none n = tt
mapped_asked f c xs ys (one {n = m} {x = x} {y = y} {xs = us} {ys = vs} h others) n = by_test (bytes_eq n m) (mapped_asked f c us vs others n)
  where
    by_test : (b : Bool) → Serves (λ a d. Fits (item_tree f a) (item_tree c d)) (lookup bytes_eq us n) (lookup bytes_eq vs n)
        → Serves (λ a d. Fits (item_tree f a) (item_tree c d)) (cond b (Some x) (lookup bytes_eq us n)) (cond b (Some y) (lookup bytes_eq vs n))
    by_test true rest = h
    by_test false rest = rest

-- what is quiet has the same trees
pub mapped_quiet : {T : Type 0} (track : Text → T) (f : Collection) (s : State) (xs ys : List (Text × ItemKind)) → AreMapped (IsTakenItem track f s) xs ys → Each (IsQuiet f) (named_keys item_keys xs) → items_of (item_tree s.own) ys ≡ items_of (item_tree f) xs
mapped_quiet track f s xs ys none q = refl
mapped_quiet track f s xs ys (one {x = x} {y = y} {xs = us} {ys = vs} h m) q =
    rw (h.quiet (Each-left (IsQuiet f) (item_keys x) (named_keys item_keys us) q), mapped_quiet track f s us vs m (Each-right (IsQuiet f) (item_keys x) (named_keys item_keys us) q)) refl

-- copies have the same trees
pub mapped_same : (f c : Collection) (xs ys : List (Text × ItemKind)) → AreMapped (λ x y. item_tree c y ≡ item_tree f x) xs ys → items_of (item_tree c) ys ≡ items_of (item_tree f) xs
mapped_same f c xs ys none = refl
mapped_same f c xs ys (one {x = x} {y = y} {xs = us} {ys = vs} h m) = rw (h, mapped_same f c us vs m) refl
