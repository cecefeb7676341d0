-- Ids that are put into a set, in order, and how many there can be.
use Rattle.std.proofs.Common.{◌≡◌, ◌≢◌, ◌≤◌, ◌⊎◌, inl, inr, ◌+◌, ℕ, suc, zero, List, [], ◌∷◌, ◌++◌, Bool, true, false, Some, length, map, take, slice_get, Contains, refl, ap, sym, subst, arith, rules, add-one, eqb}
use Rattle.std.specs.List.{list_any, IsDistinct, AllByRecursion}
use Rattle.std.proofs.lemmas.List.{length-map, map-append}
use Rattle.std.proofs.lemmas.Map.Keys.{IsDistinct-head, IsDistinct-tail, IsDistinct-cons}
use Rattle.std.proofs.lemmas.Map.Steps.{length-le_from_distinct_below}
use Rattle.indexmap.specs.IndexSet.{insert_key}
use Rattle.indexmap.proofs.CallerLemmas.{Contains-list_any}
use Rattle.wac_component.specs.Collection.{Collection}
use Rattle.wac_component.specs.Key.{Key, AllStand}
use Rattle.wac_component.specs.Naming.{key_of, Puts}
use Rattle.wac_component.specs.Reach.{IsAmong, here, there}
use Rattle.wac_component.specs.Sound.{entry_count}
use Rattle.wac_component.specs.declared.collection.naming.EntryId.{EntryId}
use Rattle.wac_component.specs.contracts.collection.naming.EntryIdPartialEq.TheImpl.{ghosts}
use Rattle.wac_component.proofs.Among.{among_either, among_left, among_right, among_single, Contains-cases}
use Rattle.wac_component.proofs.Lists.{BeginsWith-refl, BeginsWith-trans}
use Rattle.wac_component.proofs.Positions.{position}
use Rattle.wac_component.proofs.Returns.{positions_differ, positions_below}

abbrev pub id_eq : EntryId → EntryId → Bool
id_eq = ghosts.eq

pub id_exact : (x y : EntryId) → id_eq x y ≡ true → x ≡ y
id_exact x y h = search rules

pub id_differs : (x y : EntryId) → id_eq x y ≡ false → key_of x ≢ key_of y
id_differs x y h = search rules

-- ---- what is put

pub Puts-then : {ks ls b m n : List Key} → Puts ks b m → Puts ls m n → Puts (ks ++ ls) b n
Puts-then {ks} {ls} {b} {m} {n} p q = record {
  begins = BeginsWith-trans b m n p.begins q.begins;
  has = λ k h. elim (among_either ks ls h) [ inl l ↦ kept k (p.has k l) | inr r ↦ q.has k r ];
  only = λ k h. elim (q.only k h) [ inl l ↦ first k (p.only k l) | inr r ↦ inr (among_right ks ls r) ];
}
  where
    kept : (k : Key) → IsAmong k m → IsAmong k n
    kept k h = subst (IsAmong k) (sym q.begins.1) (among_left m q.begins.0 h)

    first : (k : Key) → IsAmong k b ⊎ IsAmong k ks → IsAmong k b ⊎ IsAmong k (ks ++ ls)
    first k (inl l) = inl l
    first k (inr r) = inr (among_left ks ls r)

Puts-had : (k : Key) (b : List Key) → IsAmong k b → Puts (k ∷ []) b b
Puts-had k b had = record { begins = BeginsWith-refl b; has = λ j m. subst (λ x. IsAmong x b) (sym (among_single k m)) had; only = λ j m. inl m }

Puts-last : (k : Key) (b : List Key) → Puts (k ∷ []) b (b ++ k ∷ [])
Puts-last k b = record { begins = (k ∷ [], refl); has = λ j m. among_right b (k ∷ []) m; only = λ j m. among_either b (k ∷ []) m }

pub among_ids : (es : List EntryId) (e : EntryId) → Contains es e → IsAmong (key_of e) (map key_of es)
among_ids [] e m = absurd (omega (arith, m.1))
among_ids (x ∷ es) e m = elim (Contains-cases e x es m) [
  | inl same ↦ subst (λ y. IsAmong (key_of y) (key_of x ∷ map key_of es)) same here
  | inr later ↦ there (among_ids es e later)
]

pub Puts-inserted : (es : List EntryId) (e : EntryId) → Puts (key_of e ∷ []) (map key_of es) (map key_of (insert_key id_eq es e))
Puts-inserted es e = by_test (list_any (id_eq e) es) refl
  where
    by_test : (b : Bool) → list_any (id_eq e) es ≡ b → Puts (key_of e ∷ []) (map key_of es) (map key_of (insert_key id_eq es e))
    by_test true is = rw is (Puts-had (key_of e) (map key_of es) (among_ids es e (Contains-list_any id_eq id_exact es e is)))
    by_test false is = rw (is, map-append key_of es (e ∷ [])) (Puts-last (key_of e) (map key_of es))

-- ---- one more of a list

pub take_next : {A : Type 0} (xs : List A) (i : ℕ) (x : A) → slice_get xs i ≡ Some x → take (suc i) xs ≡ take i xs ++ x ∷ []
take_next [] i x at = absurd (cc)
take_next (y ∷ xs) zero x at = let same : y ≡ x = cc in ap (λ z. z ∷ []) same
take_next (y ∷ xs) (suc i) x at = ap (λ zs. y ∷ zs) (take_next xs i x at)

pub Puts-next_id : (es : List EntryId) (i : ℕ) (e : EntryId) → slice_get es i ≡ Some e → {b m n : List Key} → Puts (map key_of (take i es)) b m → Puts (key_of e ∷ []) m n → Puts (map key_of (take (i + 1) es)) b n
Puts-next_id es i e at p q = rw (add-one, take_next es i e at, map-append key_of (take i es) (e ∷ [])) (Puts-then p q)

-- ---- how many there can be

module _ (c : Collection) where
  keys_differ : (x : EntryId) (es : List EntryId) → AllByRecursion (λ y. id_eq x y ≡ false) es → (k : Key) → IsAmong k (map key_of es) → k ≢ key_of x
  keys_differ x [] h k m e = elim m [ ]
  keys_differ x (y ∷ es) h _ here e = id_differs x y h.0 (sym e)
  keys_differ x (y ∷ es) h k (there m) e = keys_differ x es h.1 k m e

  positions_distinct : (es : List EntryId) → IsDistinct id_eq es → AllStand c (map key_of es) → IsDistinct eqb (map (position c) (map key_of es))
  unfolding IsDistinct
  positions_distinct [] h st = tt
  positions_distinct (e ∷ es) h st =
      IsDistinct-cons eqb (position c (key_of e)) (map (position c) (map key_of es)) (positions_differ c (map key_of es) (key_of e) st.1 st.0 (keys_differ e es (IsDistinct-head id_eq e es h))) (positions_distinct es (IsDistinct-tail id_eq e es h) st.1)

  -- ids that stand, each once, are no more than the entries
  pub few_stand : (es : List EntryId) → IsDistinct id_eq es → AllStand c (map key_of es) → length es ≤ entry_count c
  few_stand es h st =
      let most : length (map (position c) (map key_of es)) ≤ entry_count c = length-le_from_distinct_below (map (position c) (map key_of es)) (entry_count c) (positions_distinct es h st) (positions_below c (map key_of es) st) in
      omega (arith, most, length-map (map key_of es) (position c), length-map es key_of)
