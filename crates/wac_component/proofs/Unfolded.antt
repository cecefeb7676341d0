-- What an id stands for follows from what the ids in its entry stand for,
-- and so from what a walk reaches.
use Rattle.std.proofs.Common.{◌≡◌, ◌<◌, ℕ, suc, zero, List, [], ◌∷◌, Option, Some, None, Bool, true, refl, ap, sym, ◌∙◌, arith}
use Rattle.std.specs.List.{list_all}
use Rattle.std.specs.Option.{option_map_or}
use Rattle.wac_component.specs.Collection.{Collection}
use Rattle.wac_component.specs.Key.{Key, Entry, entry_at, entry_keys, next, optional_keys, Each, Stands}
use Rattle.wac_component.specs.Sound.{walks_end, entry_count, IsSound}
use Rattle.wac_component.specs.Unfolding.{unfolded_within, unfolded}
use Rattle.wac_component.specs.Height.{entry_height, height, keys_height}
use Rattle.wac_component.proofs.Keys.{Each-from_all, largest-same}

-- two readings of an entry agree, where what they are given agrees on the ids of P
abbrev pub Agrees : {T : Type 0} → (Entry → (Key → T) → T) → (Entry → (Key → T) → T) → (Key → Type 0) → Type 0
Agrees {T} of of' P = (f g : Key → T) → ((k : Key) → P k → f k ≡ g k) → (e : Entry) → Each P (entry_keys e) → of e f ≡ of' e g

abbrev Ends : ℕ → Collection → Key → Type 0
Ends n c k = walks_end n c k ≡ true

option_agree : {T : Type 0} (none : T) (f g : Entry → T) (P : Key → Type 0) → ((e : Entry) → Each P (entry_keys e) → f e ≡ g e) → (o : Option Entry) → Each P (optional_keys entry_keys o) → option_map_or f o none ≡ option_map_or g o none
option_agree none f g P h None all = refl
option_agree none f g P h (Some e) all = h e all

ends_below : (c : Collection) (n : ℕ) (k : Key) → Ends (suc n) c k → Each (Ends n c) (next c k)
ends_below c n k h = Each-from_all (walks_end n c) (next c k) h

-- a reading that looks at the ids of an entry alone
module _ {T : Type 0} (none : T) (of : Entry → (Key → T) → T) (local : (P : Key → Type 0) → Agrees of of P) where
  -- where all walks end within n steps, one step more changes nothing
  within_stable : (c : Collection) (n : ℕ) (k : Key) → Ends n c k → unfolded_within none of (suc n) c k ≡ unfolded_within none of n c k
  within_stable c zero k h = absurd (cc)
  within_stable c (suc n) k h =
      option_agree none (λ e. of e (unfolded_within none of (suc n) c)) (λ e. of e (unfolded_within none of n c)) (Ends n c)
      (local (Ends n c) (unfolded_within none of (suc n) c) (unfolded_within none of n c) (within_stable c n))
      (entry_at c k) (ends_below c n k h)

  within_unfold : (c : Collection) (n : ℕ) (k : Key) (e : Entry) → entry_at c k ≡ Some e → Ends n c k → unfolded_within none of n c k ≡ of e (unfolded_within none of n c)
  within_unfold c zero k e is h = absurd (cc)
  within_unfold c (suc n) k e is h =
      let below : Each (Ends n c) (entry_keys e) = rw is at (ends_below c n k h) in
      rw is (sym (local (Ends n c) (unfolded_within none of (suc n) c) (unfolded_within none of n c) (within_stable c n) e below))

  -- in a sound collection an id stands for what its entry says
  pub unfolded-entry : (c : Collection) (k : Key) (e : Entry) → IsSound c → Stands c k → entry_at c k ≡ Some e → unfolded none of c k ≡ of e (unfolded none of c)
  unfolding unfolded
  unfolded-entry c k e s st is = within_unfold c (entry_count c) k e is (s.ending k st)

-- n and j more
abbrev pub more : ℕ → ℕ → ℕ
more zero n = n
more (suc j) n = suc (more j n)

-- the ids of P have in d the entries that they have in c, and walks
-- from them in c stay in P and end
pub record Keeps (c d : Collection) (P : Key → Type 0) : Type 0 where
  pub closed : (k : Key) → P k → Each P (next c k)
  pub same_entry : (k : Key) → P k → entry_at d k ≡ entry_at c k
  pub ending : (k : Key) → P k → walks_end (entry_count c) c k ≡ true
  pub added : ℕ
  pub count : entry_count d ≡ more added (entry_count c)

list_all-more : (f g : Key → Bool) → ((k : Key) → f k ≡ true → g k ≡ true) → (ks : List Key) → list_all f ks ≡ true → list_all g ks ≡ true
list_all-more f g m [] h = refl
list_all-more f g m (k ∷ ks) h = grind (arith, m k, list_all-more f g m ks)

-- more steps are allowed
pub ends_more : (c : Collection) (n : ℕ) (k : Key) → walks_end n c k ≡ true → walks_end (suc n) c k ≡ true
ends_more c zero k h = absurd (cc)
ends_more c (suc n) k h = list_all-more (walks_end n c) (walks_end (suc n) c) (ends_more c n) (next c k) h

module _ {T : Type 0} (none : T) (of : Entry → (Key → T) → T) (local : (P : Key → Type 0) → Agrees of of P) where
  within_more : (c : Collection) (j n : ℕ) (k : Key) → Ends n c k → (unfolded_within none of (more j n) c k ≡ unfolded_within none of n c k) × Ends (more j n) c k
  within_more c zero n k h = (refl, h)
  within_more c (suc j) n k h =
      let ih = within_more c j n k h in
      (within_stable none of local c (more j n) k ih.1 ∙ ih.0, ends_more c (more j n) k ih.1)

  -- an id of P stands in d for what it stands for in c, where the readings agree on P
  module _ (of' : Entry → (Key → T) → T) (c d : Collection) (P : Key → Type 0) (keeps : Keeps c d P) (agree : Agrees of' of P) where
    within_kept : (n : ℕ) (k : Key) → P k → unfolded_within none of' n d k ≡ unfolded_within none of n c k
    within_kept zero k p = refl
    within_kept (suc n) k p =
        let same = keeps.same_entry k p in
        rw same (option_agree none (λ e. of' e (unfolded_within none of' n d)) (λ e. of e (unfolded_within none of n c)) P
        (agree (unfolded_within none of' n d) (unfolded_within none of n c) (within_kept n)) (entry_at c k) (keeps.closed k p))

    pub unfolded-kept : (k : Key) → P k → unfolded none of' d k ≡ unfolded none of c k
    unfolding unfolded
    unfolded-kept k p =
        within_kept (entry_count d) k p
        ∙ ap (λ n. unfolded_within none of n c k) keeps.count
        ∙ (within_more c keeps.added (entry_count c) k (keeps.ending k p)).0

-- heights

pub entry_height-local : (P : Key → Type 0) → Agrees entry_height entry_height P
entry_height-local P f g same e all = ap suc (largest-same P f g same (entry_keys e) all)

pub height-entry : (c : Collection) (k : Key) (e : Entry) → IsSound c → Stands c k → entry_at c k ≡ Some e → height c k ≡ suc (keys_height c (entry_keys e))
height-entry c k e s st is = unfolded-entry 0 entry_height entry_height-local c k e s st is

-- what an entry names is lower
pub entry_below : (c : Collection) (k : Key) (e : Entry) → IsSound c → Stands c k → entry_at c k ≡ Some e → keys_height c (entry_keys e) < height c k
entry_below c k e s st is = let h = height-entry c k e s st is in omega arith
