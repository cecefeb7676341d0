-- What the search for a cycle finds.
use Rattle.std.proofs.Common.{◌≡◌, ◌≢◌, ◌<◌, ◌≤◌, ℕ, ◌+◌, ◌⊎◌, inl, inr, suc, zero, List, [], ◌∷◌, Option, None, Some, length, slice_get, Result, Ok, Err, refl, ap, sym, ◌∙◌, subst, arith}
use Rattle.std.specs.Option.{option_map}
use Rattle.std.proofs.lemmas.Option.{slice_get_within}
use Rattle.std.specs.Result.{IfOk}
use Rattle.wac_model.specs.CoreTree.{ModuleTree}
use Rattle.wac_component.specs.Id.{Id}
use Rattle.wac_component.specs.Collection.{Collection}
use Rattle.wac_component.specs.Key.{Key, Entry, module_entry, entries, entry_at, entry_keys, optional_keys, next, Stands, AllStand, module_key}
use Rattle.wac_component.specs.Sound.{IsSound}
use Rattle.wac_component.specs.Height.{height, keys_height}
use Rattle.wac_component.specs.Reach.{IsAmong, here, there, Reaches, stay, step}
use Rattle.wac_component.specs.Replacing.{NamesReach}
use Rattle.wac_component.specs.Naming.{Puts}
use Rattle.wac_component.proofs.Among.{among_left, each_among}
use Rattle.wac_component.proofs.Lists.{slice_get-map, slice_get-append}
use Rattle.wac_component.proofs.Returns.{Reaches-trans}
use Rattle.wac_component.proofs.Walks.{among_stands, walks_stand}
use Rattle.wac_component.proofs.Unfolded.{entry_below}

pub next_at : (c : Collection) (k : Key) (e : Entry) → entry_at c k ≡ Some e → next c k ≡ entry_keys e
next_at c k e is = ap (optional_keys entry_keys) is

pub there_is : (es : List Entry) (i : ℕ) → i < length es → (e : Entry) × (slice_get es i ≡ Some e)
there_is [] i h = absurd (omega arith)
there_is (e ∷ es) zero h = (e, refl)
there_is (e ∷ es) (suc i) h = there_is es i (omega arith)

-- what an id leads to in one step is lower
pub next_lower : (c : Collection) (k : Key) → IsSound c → Stands c k → keys_height c (next c k) < height c k
next_lower c k s st = let found = there_is (entries c k.sort) k.id.index st.1 in rw (next_at c k found.0 found.1) (entry_below c k found.0 s st found.1)

-- a core module names no ids
pub module_next : (c : Collection) (p : Id) → next c (module_key p) ≡ []
module_next c p = ap (optional_keys entry_keys) (slice_get-map module_entry c.modules p.index) ∙ nothing (slice_get c.modules p.index)
  where
    nothing : (o : Option ModuleTree) → optional_keys entry_keys (option_map module_entry o) ≡ []
    nothing None = refl
    nothing (Some m) = refl

-- the search among ids reached from some: the fact holds of each; those before a place passed,
-- and all that is onward of them was reached
pub record Searched (ahead : Key → List Key) (IsOf IsPassed : Key → Type 0) (ks : List Key) (n : ℕ) (reached : List Key) : Type 0 where
  pub names : (k : Key) → IsAmong k ks → IsAmong k reached
  pub each : (k : Key) → IsAmong k reached → IsOf k
  pub passed : (i : ℕ) (k : Key) → i < n → slice_get reached i ≡ Some k → IsPassed k
  pub closed : (i : ℕ) (k : Key) → i < n → slice_get reached i ≡ Some k → (j : Key) → IsAmong j (ahead k) → IsAmong j reached

pub among_at : (ks : List Key) (i : ℕ) (k : Key) → slice_get ks i ≡ Some k → IsAmong k ks
among_at [] i k at = absurd (cc)
among_at (x ∷ ks) zero k at = let same : x ≡ k = cc in subst (λ y. IsAmong k (y ∷ ks)) (sym same) here
among_at (x ∷ ks) (suc i) k at = there (among_at ks i k at)

place_of : (ks : List Key) (k : Key) → IsAmong k ks → (i : ℕ) × (i < length ks) × (slice_get ks i ≡ Some k)
place_of [] k m = elim m [ ]
place_of (_ ∷ ks) k here = (0, omega arith, refl)
place_of (j ∷ ks) k (there m) = let p = place_of ks k m in let l = p.1 in (suc p.0, omega arith, p.2)

pub Searched-start : {ahead : Key → List Key} {IsOf IsPassed : Key → Type 0} {ks : List Key} (reached : List Key) → Puts ks [] reached → ((k : Key) → IsAmong k ks → IsOf k) → Searched ahead IsOf IsPassed ks 0 reached
Searched-start reached p of = record {
  names = p.has;
  each = λ k m. elim (p.only k m) [ inl l ↦ elim l [ ] | inr r ↦ of k r ];
  passed = λ i k l at. absurd (omega arith);
  closed = λ i k l at. absurd (omega arith);
}

module _ {ahead : Key → List Key} {IsOf IsPassed : Key → Type 0} {ks : List Key} {n : ℕ} {reached : List Key} (s : Searched ahead IsOf IsPassed ks n reached) where
  pub Searched-at : (i : ℕ) (k : Key) → slice_get reached i ≡ Some k → IsOf k
  Searched-at i k at = s.each k (among_at reached i k at)

  -- what is at the place passes, and what is onward of it was put
  pub Searched-next : (k : Key) (now : List Key) → slice_get reached n ≡ Some k → IsPassed k → ((j : Key) → IsAmong j (ahead k) → IsOf j) → Puts (ahead k) reached now → Searched ahead IsOf IsPassed ks (n + 1) now
  Searched-next k now at pass of p = record {
    names = λ j m. kept j (s.names j m);
    each = λ j m. elim (p.only j m) [ inl l ↦ s.each j l | inr r ↦ of j r ];
    passed = λ i j l is. elim (before_or_at i j l is) [ inl b ↦ s.passed i j b.0 b.1 | inr same ↦ subst IsPassed (sym same) pass ];
    closed = λ i j l is h m. elim (before_or_at i j l is) [ inl b ↦ kept h (s.closed i j b.0 b.1 h m) | inr same ↦ p.has h (subst (λ x. IsAmong h (ahead x)) same m) ];
  }
    where
      kept : (j : Key) → IsAmong j reached → IsAmong j now
      kept j m = subst (IsAmong j) (sym p.begins.1) (among_left reached p.begins.0 m)

      stays : (i : ℕ) → i < length reached → slice_get now i ≡ slice_get reached i
      stays i l = ap (λ xs. slice_get xs i) p.begins.1 ∙ slice_get-append reached p.begins.0 i l

      less_or_same : (i : ℕ) → i < n + 1 → (i < n) ⊎ (i ≡ n)
      less_or_same i l = grind arith

      before_or_at : (i : ℕ) (j : Key) → i < n + 1 → slice_get now i ≡ Some j → ((i < n) × (slice_get reached i ≡ Some j)) ⊎ (j ≡ k)
      before_or_at i j l is = elim (less_or_same i l) [
        | inl b ↦ inl (b, sym (stays i (omega (arith, slice_get_within reached n k at))) ∙ is)
        | inr same ↦ inr (one (sym (stays n (slice_get_within reached n k at)) ∙ rw same at is))
      ]
        where
          one : slice_get reached n ≡ Some j → j ≡ k
          one f = cc

  -- once all that was reached is before the place, each passed, and all that is onward of it was
  -- reached
  pub Searched-end : length reached ≤ n → (k : Key) → IsAmong k reached → IsPassed k × ((j : Key) → IsAmong j (ahead k) → IsAmong j reached)
  Searched-end l k m = let p = place_of reached k m in let b = p.1 in (s.passed p.0 k (omega arith) p.2, s.closed p.0 k (omega arith) p.2)

-- the search for an id: what was reached stands, and names lead to it
module _ {c : Collection} {ks : List Key} {t : Key} {n : ℕ} {reached : List Key} (s : Searched (next c) (NamesReach c ks) (λ k. k ≢ t) ks n reached) where
  pub Reached-on : (i : ℕ) (k j : Key) → slice_get reached i ≡ Some k → IsAmong j (next c k) → NamesReach c ks j
  Reached-on i k j at m = let w = Searched-at s i k at in (w.0, w.1, Reaches-trans c w.0 k j w.2 (step m stay))

  pub Reached-stand : IsSound c → AllStand c ks → AllStand c reached
  Reached-stand sound st = each_among (Stands c) reached (λ k m. let w = s.each k m in walks_stand c sound w.0 k (among_stands c w.0 ks w.1 st) w.2)

  -- in the end no walk leads to it
  pub Reached-end : length reached ≤ n → NamesReach c ks t → ⊥
  Reached-end l w = (Searched-end s l t (all w.0 t (s.names w.0 w.1) w.2)).0 refl
    where
      all : (k j : Key) → IsAmong k reached → Reaches c k j → IsAmong j reached
      all k j m stay = m
      all k j m (step {j = i} h v) = all i j ((Searched-end s l k m).1 i h) v

-- what follows from a fact of a value, if there is one
pub if_ok : {T E : Type 0} (P Q : T → Type 0) → ((t : T) → P t → Q t) → (r : Result T E) → IfOk r P → IfOk r Q
if_ok P Q f (Ok t) h = f t h
if_ok P Q f (Err e) h = h
