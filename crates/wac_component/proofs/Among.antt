-- Ids in lists: those of a list, of named things, and of an element.
use Rattle.std.proofs.Common.{◌≡◌, ◌⊎◌, inl, inr, refl, subst, sym, suc, zero, arith, List, [], ◌∷◌, ◌++◌, Bool, true, false, cond, filter, All, Some, Contains}
use Rattle.std.proofs.lemmas.List.Elements.{All-head, All-tail}
use Rattle.std.specs.List.{flat_map}
use Rattle.std.specs.Str.{bytes_eq}
use Rattle.wac_model.specs.Text.{Text, lookup}
use Rattle.wac_component.specs.Key.{Key, Each, item_keys, named_keys}
use Rattle.wac_component.specs.Reach.{IsAmong, here, there}
use Rattle.wac_component.specs.declared.items.ItemKind.{ItemKind}
use Rattle.wac_component.proofs.Keys.{Each-left, Each-right, Each-append}

-- ---- a fact of all ids of a list is one of each

pub among_each : (P : Key → Type 0) (k : Key) (ks : List Key) → IsAmong k ks → Each P ks → P k
among_each P k [] m h = elim m [ ]
among_each P k (_ ∷ ks) here h = h.0
among_each P k (j ∷ ks) (there m) h = among_each P k ks m h.1

pub each_among : (P : Key → Type 0) (ks : List Key) → ((k : Key) → IsAmong k ks → P k) → Each P ks
each_among P [] h = tt
each_among P (k ∷ ks) h = (h k here, each_among P ks (λ j m. h j (there m)))

-- of what a look-up finds
pub each_found : (P : Key → Type 0) (es : List (Text × ItemKind)) (n : Text) (y : ItemKind) → lookup bytes_eq es n ≡ Some y → Each P (named_keys item_keys es) → Each P (item_keys y)
each_found P [] n y is h = absurd (cc)
each_found P (e ∷ es) n y is h = first (bytes_eq n e.0) (each_found P es n y) is
  where
    first : (b : Bool) → (lookup bytes_eq es n ≡ Some y → Each P (named_keys item_keys es) → Each P (item_keys y)) → cond b (Some e.1) (lookup bytes_eq es n) ≡ Some y → Each P (item_keys y)
    first true later g = let same : e.1 ≡ y = cc in rw (← same) (Each-left P (item_keys e.1) (named_keys item_keys es) h)
    first false later g = later g (Each-right P (item_keys e.1) (named_keys item_keys es) h)

-- of all that is named
pub each_named : {V : Type 0} (P : Key → Type 0) (f : V → List Key) (es : List (Text × V)) → All (λ (e : Text × V). Each P (f e.1)) es → Each P (named_keys f es)
each_named P f [] h = tt
each_named {V} P f (e ∷ es) h = Each-append P (f e.1) (named_keys f es) (All-head (λ (x : Text × V). Each P (f x.1)) e es h) (each_named P f es (All-tail (λ (x : Text × V). Each P (f x.1)) e es h))

module _ {V : Type 0} (P : Key → Type 0) (g : V → List Key) where
  pub each_append : (xs ys : List V) → Each P (flat_map g xs) → Each P (flat_map g ys) → Each P (flat_map g (xs ++ ys))
  each_append [] ys h k = k
  each_append (x ∷ xs) ys h k = Each-append P (g x) (flat_map g (xs ++ ys)) (Each-left P (g x) (flat_map g xs) h) (each_append xs ys (Each-right P (g x) (flat_map g xs) h) k)

  pub each_filter : (test : V → Bool) (xs : List V) → Each P (flat_map g xs) → Each P (flat_map g (filter test xs))
  each_filter test [] h = tt
  each_filter test (x ∷ xs) h = by_test (test x) (Each-left P (g x) (flat_map g xs) h) (each_filter test xs (Each-right P (g x) (flat_map g xs) h))
    where
      by_test : (b : Bool) → Each P (g x) → Each P (flat_map g (filter test xs)) → Each P (flat_map g (cond b (x ∷ filter test xs) (filter test xs)))
      by_test true p q = Each-append P (g x) (flat_map g (filter test xs)) p q
      by_test false p q = q

-- ---- where an id is

-- an id among those of two lists
pub among_either : {k : Key} (xs ys : List Key) → IsAmong k (xs ++ ys) → IsAmong k xs ⊎ IsAmong k ys
among_either [] ys m = inr m
among_either (x ∷ xs) ys here = inl here
among_either (x ∷ xs) ys (there m) = later (among_either xs ys m)
  where
    later : {x k : Key} {xs ys : List Key} → IsAmong k xs ⊎ IsAmong k ys → IsAmong k (x ∷ xs) ⊎ IsAmong k ys
    later (inl p) = inl (there p)
    later (inr p) = inr p

pub among_left : {k : Key} (xs ys : List Key) → IsAmong k xs → IsAmong k (xs ++ ys)
among_left [] ys m = elim m [ ]
among_left (x ∷ xs) ys here = here
among_left (x ∷ xs) ys (there m) = there (among_left xs ys m)

pub among_right : {k : Key} (xs ys : List Key) → IsAmong k ys → IsAmong k (xs ++ ys)
among_right [] ys m = m
among_right (x ∷ xs) ys m = there (among_right xs ys m)

-- an element of a list
pub Contains-first : {A : Type 0} (x : A) (xs : List A) → Contains (x ∷ xs) x
Contains-first x xs = (0, omega arith, refl)

pub Contains-later : {A : Type 0} (x y : A) (xs : List A) → Contains xs x → Contains (y ∷ xs) x
Contains-later x y xs m = let l = m.1 in (suc m.0, omega arith, m.2)

pub Contains-cases : {A : Type 0} (x y : A) (xs : List A) → Contains (y ∷ xs) x → (y ≡ x) ⊎ Contains xs x
Contains-cases x y xs (zero, l, e) = inl e
Contains-cases x y xs (suc i, l, e) = inr (i, omega arith, e)

-- the one id of a list
pub among_single : {k : Key} (x : Key) → IsAmong k (x ∷ []) → k ≡ x
among_single x here = refl
among_single x (there m) = elim m [ ]

-- the ids of an element are among those of the list, and each of those is one's
module _ {V : Type 0} (f : V → List Key) where
  pub among_all : {k : Key} (xs : List V) (x : V) → Contains xs x → IsAmong k (f x) → IsAmong k (flat_map f xs)
  among_all [] x m n = absurd (omega (arith, m.1))
  among_all {k} (y ∷ xs) x m n = by_cases (λ l. among_all xs x l n) (Contains-cases x y xs m)
    where
      by_cases : (Contains xs x → IsAmong k (flat_map f xs)) → (y ≡ x) ⊎ Contains xs x → IsAmong k (f y ++ flat_map f xs)
      by_cases g (inl e) = among_left (f y) (flat_map f xs) (subst (λ (z : V). IsAmong k (f z)) (sym e) n)
      by_cases g (inr l) = among_right (f y) (flat_map f xs) (g l)

  pub among_one : {k : Key} (xs : List V) → IsAmong k (flat_map f xs) → (x : V) × Contains xs x × IsAmong k (f x)
  among_one [] m = elim m [ ]
  among_one {k} (y ∷ xs) m = by_cases (λ l. among_one xs l) (among_either (f y) (flat_map f xs) m)
    where
      by_cases : (IsAmong k (flat_map f xs) → (x : V) × Contains xs x × IsAmong k (f x)) → IsAmong k (f y) ⊎ IsAmong k (flat_map f xs) → (x : V) × Contains (y ∷ xs) x × IsAmong k (f x)
      by_cases g (inl n) = (y, Contains-first y xs, n)
      by_cases g (inr l) = let r = g l in (r.0, Contains-later r.0 y xs r.1, r.2)
