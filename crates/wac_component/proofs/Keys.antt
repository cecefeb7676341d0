-- Facts of each id of a list.
use Rattle.std.proofs.Common.{◌≡◌, ◌≤◌, ℕ, suc, zero, List, [], ◌∷◌, ◌++◌, Some, slice_get, Bool, true, false, ◌&&◌, refl, ap, arith, max}
use Rattle.std.specs.List.{flat_map, list_all}
use Rattle.std.proofs.Math.Decide.{ℕ_discrete}
use Rattle.wac_component.specs.Key.{Key, Sort-discrete, Each}
use Rattle.wac_component.specs.Height.{largest}

and_left : (a b : Bool) → (a && b) ≡ true → a ≡ true
and_left true b h = refl
and_left false b h = h

and_right : (a b : Bool) → (a && b) ≡ true → b ≡ true
and_right true b h = h
and_right false b h = absurd (cc)

pub Each-left : (P : Key → Type 0) (xs ys : List Key) → Each P (xs ++ ys) → Each P xs
Each-left P [] ys h = tt
Each-left P (x ∷ xs) ys h = (h.0, Each-left P xs ys h.1)

pub Each-right : (P : Key → Type 0) (xs ys : List Key) → Each P (xs ++ ys) → Each P ys
Each-right P [] ys h = h
Each-right P (x ∷ xs) ys h = Each-right P xs ys h.1

pub Each-append : (P : Key → Type 0) (xs ys : List Key) → Each P xs → Each P ys → Each P (xs ++ ys)
Each-append P [] ys p q = q
Each-append P (x ∷ xs) ys p q = (p.0, Each-append P xs ys p.1 q)

pub Each-map : (P Q : Key → Type 0) → ((k : Key) → P k → Q k) → (ks : List Key) → Each P ks → Each Q ks
Each-map P Q f [] h = tt
Each-map P Q f (k ∷ ks) h = (f k h.0, Each-map P Q f ks h.1)

pub Each-from_all : (p : Key → Bool) (ks : List Key) → list_all p ks ≡ true → Each (λ k. p k ≡ true) ks
Each-from_all p [] h = tt
Each-from_all p (k ∷ ks) h = (and_left (p k) (list_all p ks) h, Each-from_all p ks (and_right (p k) (list_all p ks) h))

pub all_from-Each : (p : Key → Bool) (ks : List Key) → Each (λ k. p k ≡ true) ks → list_all p ks ≡ true
all_from-Each p [] h = refl
all_from-Each p (k ∷ ks) h = let first = h.0 in let others = all_from-Each p ks h.1 in rw (first, others) refl

-- of the ids in what stands at a place
pub Each-flat_map_at : {V : Type 0} (P : Key → Type 0) (f : V → List Key) (vs : List V) (i : ℕ) (v : V) → slice_get vs i ≡ Some v → Each P (flat_map f vs) → Each P (f v)
Each-flat_map_at P f [] i v e h = absurd (cc)
Each-flat_map_at P f (x ∷ xs) zero v e h = let same : x ≡ v = cc in rw (← same) (Each-left P (f x) (flat_map f xs) h)
Each-flat_map_at P f (x ∷ xs) (suc i) v e h = Each-flat_map_at P f xs i v e (Each-right P (f x) (flat_map f xs) h)

pub largest-append : (f : Key → ℕ) (xs ys : List Key) → largest f (xs ++ ys) ≡ max (largest f xs) (largest f ys)
largest-append f [] ys = omega arith
largest-append f (x ∷ xs) ys = omega (arith, largest-append f xs ys)

-- what stands at a place is no higher than the highest
pub largest-flat_map_at : {V : Type 0} (h : Key → ℕ) (f : V → List Key) (vs : List V) (i : ℕ) (v : V) → slice_get vs i ≡ Some v → largest h (f v) ≤ largest h (flat_map f vs)
largest-flat_map_at h f [] i v e = absurd (cc)
largest-flat_map_at h f (x ∷ xs) zero v e = let same : x ≡ v = cc in rw (← same) (omega (arith, largest-append h (f x) (flat_map f xs)))
largest-flat_map_at h f (x ∷ xs) (suc i) v e = omega (arith, largest-append h (f x) (flat_map f xs), largest-flat_map_at h f xs i v e)

-- heights that agree at each id have one largest value
pub largest-same : (P : Key → Type 0) (f g : Key → ℕ) → ((k : Key) → P k → f k ≡ g k) → (ks : List Key) → Each P ks → largest f ks ≡ largest g ks
largest-same P f g same [] h = refl
largest-same P f g same (k ∷ ks) h = rw (same k h.0, largest-same P f g same ks h.1) refl

-- keys are equal where their sorts, numbers and indices are
pub Key-parts : (j k : Key) → j.sort ≡ k.sort → j.id.number ≡ k.id.number → j.id.index ≡ k.id.index → j ≡ k
Key-parts j k s n i = λ t. record { sort = s t; id = record { number = n t; index = i t } }

-- whether two keys are equal is decided
pub Key-discrete : Discrete Key
Key-discrete j k = by_sort (Sort-discrete j.sort k.sort)
  where
    by_index : j.sort ≡ k.sort → j.id.number ≡ k.id.number → Dec (j.id.index ≡ k.id.index) → Dec (j ≡ k)
    by_index s n (yes i) = yes (Key-parts j k s n i)
    by_index s n (no h) = no (λ e. h (ap (λ (x : Key). x.id.index) e))

    by_number : j.sort ≡ k.sort → Dec (j.id.number ≡ k.id.number) → Dec (j ≡ k)
    by_number s (yes n) = by_index s n (ℕ_discrete j.id.index k.id.index)
    by_number s (no h) = no (λ e. h (ap (λ (x : Key). x.id.number) e))

    by_sort : Dec (j.sort ≡ k.sort) → Dec (j ≡ k)
    by_sort (yes s) = by_number s (ℕ_discrete j.id.number k.id.number)
    by_sort (no h) = no (λ e. h (ap (λ (x : Key). x.sort) e))
