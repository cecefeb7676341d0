-- The meet and the join of two collections of named values, got one name after another.
use Rattle.std.proofs.Common.{◌≡◌, refl, sym, ap, subst, ◌∙◌, Bool, true, false, cond, Option, Some, None, option_map, option_and_then, if◌then◌else◌}
use Rattle.std.specs.Bool.{Decides}
use Rattle.wac_model.specs.CoreTree.{Serves}
use Rattle.wac_bounds.specs.MeetIn.{IsMeetIn, IsJoinIn}
use Rattle.wac_bounds.proofs.MeetOf.{met, opt_meet, opt_join, opt_meet_is, opt_join_is}

-- what b has, but for n
abbrev pub hide : {K V : Type 0} → (K → K → Bool) → K → (K → Option V) → K → Option V
hide is_same n b k = if is_same k n then None else b k

-- m with o at n, where there is one
abbrev pub put : {K V M : Type 0} → (K → V → M → M) → K → Option V → M → M
put add n None m = m
put add n (Some v) m = add n v m

-- the same of what r is, or none where o or r is
abbrev pub put_all : {K V M : Type 0} → (K → V → M → M) → K → Option V → Option M → Option M
put_all add n None r = None
put_all add n (Some v) r = option_map (add n v) r

-- o has at each name what g gives; where it is none, g gives nothing at some name
abbrev pub IsTable : {K V M : Type 0} → (M → K → Option V) → (K → Option (Option V)) → Option M → Type 0
IsTable {K} look g None = (k : K) × (g k ≡ None)
IsTable {K} look g (Some m) = (k : K) → g k ≡ Some (look m k)

-- o has at each name the meet of what a and b have there; where it is none,
-- these have no meet at some name
abbrev pub IsMeetByName : {K V M : Type 0} → (V → V → Type 0) → (M → K → Option V) → (a b : K → Option V) → Option M → Type 0
IsMeetByName {K} R look a b None = (k : K) × IsMeetIn (Serves R) (a k) (b k) None
IsMeetByName {K} R look a b (Some m) = (k : K) → IsMeetIn (Serves R) (a k) (b k) (Some (look m k))

-- a and b met, or t where there is no a
abbrev pub meet_or : {V : Type 0} → (V → V → Option V) → Option V → Option V → Option V → Option (Option V)
meet_or f None b t = Some t
meet_or f (Some v) b t = option_map Some (met (f v) v b)

-- a step: the first collection has v at n, and at other names what a has; the second has what b
-- has. `look m k` is what the collection m has at the name k
module _ {K V M : Type 0} (is_same : K → K → Bool) (decides : (j k : K) → Decides (is_same j k) (j ≡ k))
    (look : M → K → Option V) (add : K → V → M → M) (add_at : (n : K) (v : V) (m : M) (k : K) → look (add n v m) k ≡ cond (is_same k n) (Some v) (look m k))
    (f : V → V → Option V) (n : K) (v : V) (a b : K → Option V) where
  is_there : is_same n n ≡ true
  is_there = (decides n n).1 refl

  put_at : (o : Option V) (m : M) (k : K) → look m n ≡ None → look (put add n o m) k ≡ cond (is_same k n) o (look m k)
  put_at None m k h = go (is_same k n) refl
    where
      go : (c : Bool) → is_same k n ≡ c → look m k ≡ cond c None (look m k)
      go true g = subst (λ x. look m x ≡ None) (sym ((decides k n).0 g)) h
      go false g = refl
  put_at (Some w) m k h = add_at n w m k

  opt_join-none : (o : Option V) → opt_join f o None ≡ None
  opt_join-none None = refl
  opt_join-none (Some w) = refl

  pub join_step : (m : M) → ((k : K) → look m k ≡ opt_join f (a k) (hide is_same n b k))
      → (k : K) → look (put add n (option_and_then (f v) (b n)) m) k ≡ opt_join f (if is_same k n then Some v else a k) (b k)
  join_step m h k = put_at (option_and_then (f v) (b n)) m k (h n ∙ rw is_there (opt_join-none (a n))) ∙ go (is_same k n) refl (h k)
    where
      go : (c : Bool) → is_same k n ≡ c → look m k ≡ opt_join f (a k) (cond c None (b k))
          → cond c (option_and_then (f v) (b n)) (look m k) ≡ opt_join f (cond c (Some v) (a k)) (b k)
      go true g h = ap (λ x. option_and_then (f v) (b x)) (sym ((decides k n).0 g))
      go false g h = h

  meet_or-hidden : (o t : Option V) → meet_or f o None t ≡ None → ⊥
  meet_or-hidden None t h = cc
  meet_or-hidden (Some w) t h = cc

  pub meet_step : (t : K → Option V) (o : Option V) (r : Option M) → met (f v) v (b n) ≡ o → IsTable look (λ k. meet_or f (a k) (hide is_same n b k) (t k)) r
      → IsTable look (λ k. meet_or f (if is_same k n then Some v else a k) (b k) (t k)) (put_all add n o r)
  meet_step t None r p h = (n, rw is_there (ap (option_map Some) p))
  meet_step t (Some w) None p h = (h.0, go (is_same h.0 n) h.1)
    where
      go : (c : Bool) → meet_or f (a h.0) (cond c None (b h.0)) (t h.0) ≡ None → meet_or f (cond c (Some v) (a h.0)) (b h.0) (t h.0) ≡ None
      go true q = absurd (meet_or-hidden (a h.0) (t h.0) q)
      go false q = q
  meet_step t (Some w) (Some m) p h = λ k. go k (is_same k n) refl (h k) ∙ ap Some (sym (add_at n w m k))
    where
      go : (k : K) (c : Bool) → is_same k n ≡ c → meet_or f (a k) (cond c None (b k)) (t k) ≡ Some (look m k)
          → meet_or f (cond c (Some v) (a k)) (b k) (t k) ≡ Some (cond c (Some w) (look m k))
      go k true g q = ap (option_map Some) (ap (λ x. met (f v) v (b x)) ((decides k n).0 g) ∙ p)
      go k false g q = q

module _ {K V M : Type 0} (R : V → V → Type 0) (f : V → V → Option V) (look : M → K → Option V) (a b : K → Option V) where
  meet_or_is : (x y : Option V) → IsMeetIn (Serves R) x y (opt_meet f x y) → IsMeetIn (Serves R) x y (meet_or f x y y)
  meet_or_is None y h = h
  meet_or_is (Some v) y h = h

  pub meet_by_name : ((k : K) (v : V) → a k ≡ Some v → R v v) → ((k : K) (w : V) → b k ≡ Some w → R w w)
      → ((k : K) (v : V) → a k ≡ Some v → (w : V) → b k ≡ Some w → IsMeetIn R v w (f v w))
      → (o : Option M) → IsTable look (λ k. meet_or f (a k) (b k) (b k)) o → IsMeetByName R look a b o
  meet_by_name r s h = go
    where
      at : (k : K) → IsMeetIn (Serves R) (a k) (b k) (meet_or f (a k) (b k) (b k))
      at k = meet_or_is (a k) (b k) (opt_meet_is R f (a k) (b k) (r k) (s k) (h k))

      go : (o : Option M) → IsTable look (λ k. meet_or f (a k) (b k) (b k)) o → IsMeetByName R look a b o
      go None p = (p.0, subst (IsMeetIn (Serves R) (a p.0) (b p.0)) p.1 (at p.0))
      go (Some m) p = λ k. subst (IsMeetIn (Serves R) (a k) (b k)) (p k) (at k)

  pub join_by_name : ((k : K) (v : V) → a k ≡ Some v → (w : V) → b k ≡ Some w → IsJoinIn R v w (f v w))
      → (m : M) → ((k : K) → look m k ≡ opt_join f (a k) (b k)) → (k : K) → IsJoinIn (Serves R) (a k) (b k) (Some (look m k))
  join_by_name h m p k = subst (λ o. IsJoinIn (Serves R) (a k) (b k) (Some o)) (sym (p k)) (opt_join_is R f (a k) (b k) (h k))
