-- Tasks that are done one after another.
use Rattle.std.proofs.Common.{◌≡◌, ◌<◌, ◌≤◌, ◌+◌, ◌-◌, ◌++◌, ◌⊎◌, inl, inr, ℕ, zero, suc, List, [], ◌∷◌, Option, Some, None, Bool, true, false, is_some, length, map, take, drop, slice_get, refl, ap, sym, subst, ◌∙◌, arith, append_assoc}
use Rattle.std.proofs.Math.Seq.{take-append_seam}
use Rattle.std.proofs.lemmas.List.{map-append, take-append-le}
use Rattle.std.proofs.lemmas.List.Sums.{sum_by-cons, sum_by_push}
use Rattle.std.specs.List.{list_any, sum_by}
use Rattle.indexmap.specs.IndexSet.{insert_key}
use Rattle.indexmap.proofs.CallerLemmas.{Contains-list_any}
use Rattle.wac_component.specs.Collection.{Collection}
use Rattle.wac_aggregator_memo.specs.EntryOrder.{HasOwnOr, IsNeeded, root, onward, ArePartsFirst, task_key, task_keys, backwards, IsReady, AreReady, entry_work, entering_work, task_work, tasks_work, IsDone}
use Rattle.wac_component.specs.Height.{height, keys_height}
use Rattle.wac_component.specs.Key.{Key, Each, Stands, AllStand, entries, entry_keys, next}
use Rattle.wac_aggregator_memo.specs.Memo.{Remembered}
use Rattle.wac_component.specs.Naming.{key_of}
use Rattle.wac_component.specs.Reach.{IsAmong, here, there}
use Rattle.wac_component.specs.Sound.{IsSound}
use Rattle.wac_component.specs.declared.collection.naming.EntryId.{EntryId}
use Rattle.wac_aggregator_memo.specs.declared.order.Task.{Task}
use Rattle.wac_aggregator_memo.specs.declared.order.Task.TheVariants.{Enter, List as ListIt}
use Rattle.wac_component.proofs.Among.{each_among, among_either, among_left, among_right, among_single}
use Rattle.wac_component.proofs.Keys.{Each-left, Each-right, Each-append, Each-map}
use Rattle.wac_component.proofs.Lists.{append_nil}
use Rattle.wac_component.proofs.Reached.{id_eq, id_exact, among_ids}
use Rattle.wac_component.proofs.Search.{there_is, next_at}
use Rattle.wac_component.proofs.Unfolded.{Agrees, unfolded-entry}
use Rattle.wac_component.proofs.Walks.{among_below, among_stands, next_below, next_stands}

-- ---- a list from its end

among_backwards : (ks : List Key) (k : Key) → IsAmong k (backwards ks) → IsAmong k ks
among_backwards [] k m = m
among_backwards (j ∷ ks) k m = elim (among_either (backwards ks) (j ∷ []) m) [
  | inl l ↦ there (among_backwards ks k l)
  | inr r ↦ subst (λ i. IsAmong k (i ∷ ks)) (among_single j r) here
]

backwards_among : (ks : List Key) (k : Key) → IsAmong k ks → IsAmong k (backwards ks)
backwards_among [] k m = m
backwards_among (j ∷ ks) _ here = among_right (backwards ks) (j ∷ []) here
backwards_among (j ∷ ks) k (there m) = among_left (backwards ks) (j ∷ []) (backwards_among ks k m)

entered_keys : (es : List EntryId) → task_keys (map Enter (backwards es)) ≡ backwards (map key_of es)
entered_keys [] = refl
entered_keys (e ∷ es) = ap task_keys (map-append Enter (backwards es) (e ∷ [])) ∙ map-append task_key (map Enter (backwards es)) (Enter e ∷ []) ∙ ap (λ ks. ks ++ key_of e ∷ []) (entered_keys es)

drop_at : {A : Type 0} (xs : List A) (j : ℕ) (x : A) → slice_get xs j ≡ Some x → drop j xs ≡ x ∷ drop (suc j) xs
drop_at [] j x at = absurd (cc)
drop_at (y ∷ xs) zero x at = let same : y ≡ x = cc in ap (λ z. z ∷ xs) same
drop_at (y ∷ xs) (suc j) x at = drop_at xs j x at

-- ---- work

entered_work : (c : Collection) (es : List EntryId) → tasks_work c (map Enter (backwards es)) ≡ sum_by (entering_work c) (map key_of es)
entered_work c [] = refl
entered_work c (e ∷ es) = omega (arith, ap (tasks_work c) (map-append Enter (backwards es) (e ∷ [])), sum_by_push (task_work c) (map Enter (backwards es)) (Enter e), entered_work c es, sum_by-cons (entering_work c) (key_of e) (map key_of es))

sum_same : (P : Key → Type 0) (f g : Key → ℕ) → ((k : Key) → P k → f k ≡ g k) → (ks : List Key) → Each P ks → sum_by f ks ≡ sum_by g ks
sum_same P f g same [] h = refl
sum_same P f g same (k ∷ ks) h = omega (arith, sum_by-cons f k ks, sum_by-cons g k ks, same k h.0, sum_same P f g same ks h.1)

entry_work-local : (P : Key → Type 0) → Agrees entry_work entry_work P
entry_work-local P f g same e all = ap (λ n. suc (suc n)) (sum_same P f g same (entry_keys e) all)

entering_work-next : (c : Collection) (k : Key) → IsSound c → Stands c k → entering_work c k ≡ suc (suc (sum_by (entering_work c) (next c k)))
entering_work-next c k s st =
    let found = there_is (entries c k.sort) k.id.index st.1 in
    unfolded-entry 0 entry_work entry_work-local c k found.0 s st found.1 ∙ ap (λ ks. suc (suc (sum_by (entering_work c) ks))) (sym (next_at c k found.0 found.1))

-- ---- a task

enters_ready : (c : Collection) (m : Remembered) (order : List Key) (es : List EntryId) → AreReady c m order (map Enter es)
enters_ready c m order [] = tt
enters_ready c m order (e ∷ es) = (tt, enters_ready c m order es)

pub nothing_there : {A : Type 0} (o : Option A) → is_some o ≡ false → o ≡ None
nothing_there None h = refl
nothing_there (Some x) h = absurd (cc)

pub among_found : (es : List EntryId) (e : EntryId) → list_any (id_eq e) es ≡ true → IsAmong (key_of e) (map key_of es)
among_found es e is = among_ids es e (Contains-list_any id_eq id_exact es e is)

module _ (c : Collection) (m : Remembered) where
  -- no task is put
  Done-without : (t : Task) (before now : List Key) (ts : List Task) → ((k : Key) → IsAmong k (before ++ task_key t ∷ []) → HasOwnOr m now k)
      → (now ≡ before) ⊎ ((now ≡ before ++ task_key t ∷ []) × (IsReady c m before t [] → Each (HasOwnOr m before) (next c (task_key t)))) → 0 < task_work c t → IsDone c m t before ts now ts
  Done-without t before now ts due order less = record {
    more = [];
    put = sym (append_nil ts);
    due = λ k a. subst (λ ks. HasOwnOr m ks k) (sym (append_nil now)) (due k a);
    ready = tt;
    order = order;
    needed = λ ids w. tt;
    less = less;
  }

  -- what was there is, and so is the one
  either_there : (before : List Key) (j k : Key) → HasOwnOr m before j → IsAmong k (before ++ j ∷ []) → HasOwnOr m before k
  either_there before j k had a = elim (among_either before (j ∷ []) a) [ inl l ↦ inr l | inr r ↦ subst (HasOwnOr m before) (sym (among_single j r)) had ]

  -- the entry is listed, or was
  pub Done-listed : (e : EntryId) (os : List EntryId) (ts : List Task) → IsDone c m (ListIt e) (map key_of os) ts (map key_of (insert_key id_eq os e)) ts
  Done-listed e os ts = by_test (list_any (id_eq e) os) refl
    where
      by_test : (b : Bool) → list_any (id_eq e) os ≡ b → IsDone c m (ListIt e) (map key_of os) ts (map key_of (insert_key id_eq os e)) ts
      by_test true is = rw is (Done-without (ListIt e) (map key_of os) (map key_of os) ts (λ k a. either_there (map key_of os) (key_of e) k (inr (among_found os e is)) a) (inl refl) (omega arith))
      by_test false is = rw (is, map-append key_of os (e ∷ [])) (Done-without (ListIt e) (map key_of os) (map key_of os ++ key_of e ∷ []) ts (λ k a. inr a)
          (inr (refl, λ h. subst (λ ks. Each (HasOwnOr m ks) (next c (key_of e))) (append_nil (map key_of os)) h)) (omega arith))

  module _ (sound : IsSound c) (e : EntryId) (stands : Stands c (key_of e)) (os : List Key) (ts : List Task) where
    -- the entry has an own one, or was listed
    pub Done-skipped : HasOwnOr m os (key_of e) → IsDone c m (Enter e) os ts os ts
    Done-skipped is = Done-without (Enter e) os os ts (λ k a. either_there os (key_of e) k is a) (inl refl) (omega (arith, entering_work-next c (key_of e) sound stands))

    -- the entry is entered
    pub Done-entered : (ids : List EntryId) (now : List Task) → m (key_of e) ≡ None → map key_of ids ≡ next c (key_of e) → now ≡ (ts ++ ListIt e ∷ []) ++ map Enter (backwards ids) → IsDone c m (Enter e) os ts os now
    Done-entered ids now none is put = record {
      more = ListIt e ∷ map Enter (backwards ids);
      put = put ∙ append_assoc ts (ListIt e ∷ []) (map Enter (backwards ids));
      due = λ k a. inr (elim (among_either os (key_of e ∷ []) a) [
        | inl l ↦ among_left os (key_of e ∷ task_keys (map Enter (backwards ids))) l
        | inr r ↦ among_right os (key_of e ∷ task_keys (map Enter (backwards ids))) (subst (λ j. IsAmong j (key_of e ∷ task_keys (map Enter (backwards ids)))) (sym (among_single (key_of e) r)) here)
      ]);
      ready = (each_among (HasOwnOr m (os ++ task_keys (map Enter (backwards ids)))) (next c (key_of e)) (λ k a. inr (among_right os (task_keys (map Enter (backwards ids))) (subst (IsAmong k) (sym same) (backwards_among (next c (key_of e)) k a)))), enters_ready c m os (backwards ids));
      order = inl refl;
      needed = λ roots w. (w, each_among (IsNeeded c m roots) (task_keys (map Enter (backwards ids))) (λ k a. onward none (among_backwards (next c (key_of e)) k (subst (IsAmong k) same a)) w));
      less = omega (arith, entering_work-next c (key_of e) sound stands, sum_by-cons (task_work c) (ListIt e) (map Enter (backwards ids)), entered_work c ids, ap (sum_by (entering_work c)) is);
    }
      where
        same : task_keys (map Enter (backwards ids)) ≡ backwards (next c (key_of e))
        same = entered_keys ids ∙ ap backwards is

-- ---- one after another

-- so far: what is listed is in order, and what is due has an own entry, was listed, or is entered
pub record Orders (c : Collection) (m : Remembered) (ids order : List Key) (tasks : List Task) : Type 0 where
  pub needed : Each (IsNeeded c m ids) (order ++ task_keys tasks)
  pub after : (i : ℕ) (k : Key) → slice_get order i ≡ Some k → Each (HasOwnOr m (take i order)) (next c k)
  pub ready : AreReady c m order tasks
  pub has : Each (HasOwnOr m (order ++ task_keys tasks)) ids

pub Orders-start : (c : Collection) (m : Remembered) (ids : List EntryId) (tasks : List Task) → tasks ≡ map Enter (backwards ids) → Orders c m (map key_of ids) [] tasks
Orders-start c m ids tasks is = rw is record {
  needed = each_among (IsNeeded c m (map key_of ids)) (task_keys (map Enter (backwards ids))) (λ k a. root (among_backwards (map key_of ids) k (subst (IsAmong k) (entered_keys ids) a)));
  after = λ i k at. absurd (cc);
  ready = enters_ready c m [] (backwards ids);
  has = each_among (HasOwnOr m (task_keys (map Enter (backwards ids)))) (map key_of ids) (λ k a. inr (subst (IsAmong k) (sym (entered_keys ids)) (backwards_among (map key_of ids) k a)));
}

-- what was due still is, with the last task done
module _ (m : Remembered) (t : Task) (os now : List Key) (more : List Task) (due : (k : Key) → IsAmong k (os ++ task_key t ∷ []) → HasOwnOr m (now ++ task_keys more) k) where
  due_more : (xs : List Task) (k : Key) → HasOwnOr m (os ++ task_keys (xs ++ t ∷ [])) k → HasOwnOr m (now ++ task_keys (xs ++ more)) k
  due_more xs k (inl has) = inl has
  due_more xs k (inr a) = elim (among_either os (task_keys (xs ++ t ∷ [])) a) [
    | inl l ↦ lift (due k (among_left os (task_key t ∷ []) l))
    | inr r ↦ elim (among_either (task_keys xs) (task_key t ∷ []) (subst (IsAmong k) (map-append task_key xs (t ∷ [])) r)) [
      | inl l ↦ inr (later (among_left (task_keys xs) (task_keys more) l))
      | inr l ↦ lift (due k (among_right os (task_key t ∷ []) l))
    ]
  ]
    where
      later : IsAmong k (task_keys xs ++ task_keys more) → IsAmong k (now ++ task_keys (xs ++ more))
      later b = among_right now (task_keys (xs ++ more)) (subst (IsAmong k) (sym (map-append task_key xs more)) b)

      lift : HasOwnOr m (now ++ task_keys more) k → HasOwnOr m (now ++ task_keys (xs ++ more)) k
      lift (inl has) = inl has
      lift (inr b) = inr (elim (among_either now (task_keys more) b) [
        | inl l ↦ among_left now (task_keys (xs ++ more)) l
        | inr r ↦ later (among_right (task_keys xs) (task_keys more) r)
      ])

  ready_more : (c : Collection) (xs : List Task) → AreReady c m os (xs ++ t ∷ []) → AreReady c m now more → AreReady c m now (xs ++ more)
  ready_more c [] h g = g
  ready_more c (Enter e ∷ xs) h g = (tt, ready_more c xs h.1 g)
  ready_more c (ListIt e ∷ xs) h g = (Each-map (HasOwnOr m (os ++ task_keys (xs ++ t ∷ []))) (HasOwnOr m (now ++ task_keys (xs ++ more))) (due_more xs) (next c (key_of e)) h.0, ready_more c xs h.1 g)

ready_last : (c : Collection) (m : Remembered) (os : List Key) (xs : List Task) (t : Task) → AreReady c m os (xs ++ t ∷ []) → IsReady c m os t []
ready_last c m os [] t h = h.0
ready_last c m os (x ∷ xs) t h = ready_last c m os xs t h.1

-- one more is listed
after_last : (c : Collection) (m : Remembered) (os : List Key) (j : Key) → ((i : ℕ) (k : Key) → slice_get os i ≡ Some k → Each (HasOwnOr m (take i os)) (next c k)) → Each (HasOwnOr m os) (next c j)
    → (i : ℕ) (k : Key) → slice_get (os ++ j ∷ []) i ≡ Some k → Each (HasOwnOr m (take i (os ++ j ∷ []))) (next c k)
after_last c m os j h last i k at = elim (before_or_last os i at) [
  | inl b ↦ subst (λ xs. Each (HasOwnOr m xs) (next c k)) (sym (take-append-le i os (j ∷ []) (let l = b.1 in omega arith))) (h i k b.0)
  | inr e ↦ subst (λ xs. Each (HasOwnOr m xs) (next c k)) (sym (ap (λ n. take n (os ++ j ∷ [])) e.0 ∙ take-append_seam os (j ∷ []))) (subst (λ x. Each (HasOwnOr m os) (next c x)) e.1 last)
]
  where
    before_or_last : (os : List Key) (i : ℕ) → slice_get (os ++ j ∷ []) i ≡ Some k → ((slice_get os i ≡ Some k) × (i < length os)) ⊎ ((i ≡ length os) × (j ≡ k))
    before_or_last [] zero at = inr (refl, (let same : j ≡ k = cc in same))
    before_or_last [] (suc i) at = absurd (cc)
    before_or_last (x ∷ os) zero at = inl (at, omega arith)
    before_or_last (x ∷ os) (suc i) at = elim (before_or_last os i at) [ inl b ↦ inl (b.0, let l = b.1 in omega arith) | inr e ↦ inr (ap suc e.0, e.1) ]

module _ (c : Collection) (m : Remembered) (ids : List Key) (sound : IsSound c) (stand : AllStand c ids) where
  -- what is needed stands, and is no higher than the ids
  needed_stands : (k : Key) → IsNeeded c m ids k → Stands c k
  needed_stands k (root a) = among_stands c k ids a stand
  needed_stands k (onward {j = j} none a w) = next_stands c j k sound (needed_stands j w) a

  pub needed_low : (k : Key) → IsNeeded c m ids k → height c k ≤ keys_height c ids
  needed_low k (root a) = among_below (height c) k ids a
  needed_low k (onward {j = j} none a w) = omega (arith, next_below c j k sound (needed_stands j w) a, needed_low j w)

  module _ (os : List Key) (xs : List Task) (t : Task) (h : Orders c m ids os (xs ++ t ∷ [])) where
    due_tasks : Each (IsNeeded c m ids) (task_keys xs ++ task_key t ∷ [])
    due_tasks = subst (Each (IsNeeded c m ids)) (map-append task_key xs (t ∷ [])) (Each-right (IsNeeded c m ids) os (task_keys (xs ++ t ∷ [])) h.needed)

    last_needed : IsNeeded c m ids (task_key t)
    last_needed = (Each-right (IsNeeded c m ids) (task_keys xs) (task_key t ∷ []) due_tasks).0

    pub Orders-stands : Stands c (task_key t)
    Orders-stands = needed_stands (task_key t) last_needed

    pub Orders-next : (now : List Key) (rest : List Task) → IsDone c m t os xs now rest → Orders c m ids now rest
    Orders-next now rest d = rw d.put record {
      needed = Each-append (IsNeeded c m ids) now (task_keys (xs ++ d.more)) listed (subst (Each (IsNeeded c m ids)) (sym (map-append task_key xs d.more)) (Each-append (IsNeeded c m ids) (task_keys xs) (task_keys d.more) (Each-left (IsNeeded c m ids) (task_keys xs) (task_key t ∷ []) due_tasks) (d.needed ids last_needed)));
      after = elim d.order [
        | inl same ↦ subst (λ ks. (i : ℕ) (k : Key) → slice_get ks i ≡ Some k → Each (HasOwnOr m (take i ks)) (next c k)) (sym same) h.after
        | inr new ↦ subst (λ ks. (i : ℕ) (k : Key) → slice_get ks i ≡ Some k → Each (HasOwnOr m (take i ks)) (next c k)) (sym new.0) (after_last c m os (task_key t) h.after (new.1 (ready_last c m os xs t h.ready)))
      ];
      ready = ready_more m t os now d.more d.due c xs h.ready d.ready;
      has = Each-map (HasOwnOr m (os ++ task_keys (xs ++ t ∷ []))) (HasOwnOr m (now ++ task_keys (xs ++ d.more))) (due_more m t os now d.more d.due xs) ids h.has;
    }
      where
        first : Each (IsNeeded c m ids) os
        first = Each-left (IsNeeded c m ids) os (task_keys (xs ++ t ∷ [])) h.needed

        listed : Each (IsNeeded c m ids) now
        listed = elim d.order [
          | inl same ↦ subst (Each (IsNeeded c m ids)) (sym same) first
          | inr new ↦ subst (Each (IsNeeded c m ids)) (sym new.0) (Each-append (IsNeeded c m ids) os (task_key t ∷ []) first (last_needed, tt))
        ]

  -- once no task is left
  pub Orders-end : (os : List Key) → Orders c m ids os [] → ArePartsFirst c m ids os
  Orders-end os h = record {
    stand = Each-map (IsNeeded c m ids) (Stands c) needed_stands os all;
    needed = all;
    after = h.after;
    has = subst (λ ks. Each (HasOwnOr m ks) ids) (append_nil os) h.has;
  }
    where
      all : Each (IsNeeded c m ids) os
      all = subst (Each (IsNeeded c m ids)) (append_nil os) h.needed
