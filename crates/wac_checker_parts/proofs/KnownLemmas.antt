-- The pairs that are known: when two are one, and one more pair.
use Rattle.std.specs.List.{list_any, Contains}
use Rattle.std.proofs.lemmas.Map.Views.{Contains-from_any}
use Rattle.std.proofs.Common.{◌≡◌, ◌≢◌, ◌||◌, inl, inr, ℕ, zero, suc, List, [], ◌∷◌, ◌++◌, Bool, Result, Ok, Err, true, false, Some, slice_get, refl, ap, sym, subst, arith, rules}
use Rattle.std.proofs.lemmas.List.Elements.{Contains-append_cases, Contains-push_cases}
use Rattle.wac_component.proofs.Among.{Contains-first, Contains-later, Contains-cases}
use Rattle.wac_component.specs.Collection.{Collection}
use Rattle.wac_checker_parts.specs.Pairs.{ArePairsDistinct, ArePairsOf, IsStanding}
use Rattle.wac_checker_parts.specs.declared.parts.EntryPair.{EntryPair}
use Rattle.wac_checker_parts.specs.contracts.parts.EntryPairPartialEq.TheImpl.{ghosts}

-- `==` tells pairs apart
pub pair_exact : (p q : EntryPair) → ghosts.eq p q ≡ true → p ≡ q
pair_exact p q h = search rules

pub pair_equal : (p : EntryPair) → ghosts.eq p p ≡ true
pair_equal p = search rules

pub other_pair : (p q : EntryPair) (b : Bool) → b ≡ ghosts.eq p q → b ≡ false → p ≢ q
other_pair p q b is told e = let same : ghosts.eq p q ≡ true = subst (λ (x : EntryPair). ghosts.eq x q ≡ true) (sym e) (pair_equal q) in absurd (cc (is, told, same))

-- an answer is one of three
pub yes_not_no : {E : Type 0} → (let r : Result Bool E = Ok true in r) ≡ Ok false → ⊥
yes_not_no h = absurd (cc)

pub yes_not_err : {E : Type 0} (e : E) → (let r : Result Bool E = Ok true in r) ≡ Err e → ⊥
yes_not_err e h = absurd (cc)

pub or_true : (b : Bool) → (b || true) ≡ true
or_true true = refl
or_true false = refl

-- a pair of a list is found there
pub pair_found : (q : EntryPair) (ps : List EntryPair) → Contains ps q → list_any (ghosts.eq q) ps ≡ true
pair_found q [] m = absurd (omega (arith, m.1))
pair_found q (p ∷ ps) (zero, l, e) = rw (e, pair_equal q) refl
pair_found q (p ∷ ps) (suc i, l, e) = rw (pair_found q ps (i, omega (arith, l), e)) (or_true (ghosts.eq q p))

distinct_push : (ps : List EntryPair) (q : EntryPair) → ArePairsDistinct ps → (Contains ps q → ⊥) → ArePairsDistinct (ps ++ q ∷ [])
distinct_push [] q h none = (none, tt)
distinct_push (p ∷ ps) q h none = (
  (λ m. elim (Contains-append_cases ps (q ∷ []) p m) [ inl before ↦ h.0 before | inr last ↦ elim (Contains-cases p q [] last) [ inl e ↦ none (subst (λ (r : EntryPair). Contains (p ∷ ps) r) (sym e) (Contains-first p ps)) | inr none_there ↦ absurd (omega (arith, none_there.1)) ] ]),
  distinct_push ps q h.1 (λ m. none (Contains-later q p ps m)),
)

pub pairs_push : (c d : Collection) (ps : List EntryPair) (q : EntryPair) → ArePairsOf c d ps → (Contains ps q → ⊥) → IsStanding c d q → ArePairsOf c d (ps ++ q ∷ [])
pairs_push c d ps q h none stand = (distinct_push ps q h.0 none, λ p m. elim (Contains-push_cases ps q p m) [ inl old ↦ h.1 p old | inr e ↦ subst (λ (x : EntryPair). IsStanding c d x) e stand ])

some_one : {A : Type 0} (x y : A) → Some x ≡ Some y → x ≡ y
some_one x y e = cc

pub element_at : {A : Type 0} (xs : List A) (i : ℕ) (x : A) → slice_get xs i ≡ Some x → Contains xs x
element_at [] i x e = absurd (cc)
element_at {A} (y ∷ xs) zero x e = subst (λ (z : A). Contains (y ∷ xs) z) (some_one y x e) (Contains-first y xs)
element_at (y ∷ xs) (suc i) x e = Contains-later x y xs (element_at xs i x e)

-- ---- the two lists of pairs

-- a pair that isn't among few goes last in the set of the others, unless it is there
pub set_has : (many : List EntryPair) (p : EntryPair) → list_any (ghosts.eq p) many ≡ true → Contains many p
set_has many p there = Contains-from_any pair_exact p many there

pub set_new : (few many : List EntryPair) (p : EntryPair) → (Contains few p → ⊥) → list_any (ghosts.eq p) many ≡ false → Contains (few ++ many) p → ⊥
set_new few many p none there m = elim (Contains-append_cases few many p m) [ inl first ↦ none first | inr later ↦ absurd (cc (pair_found p many later, there)) ]

pub place_of_pair : (ps : List EntryPair) (q : EntryPair) → Contains ps q → (i : ℕ) × (slice_get ps i ≡ Some q)
place_of_pair [] q m = absurd (omega (arith, m.1))
place_of_pair (p ∷ ps) q m = elim (Contains-cases q p ps m) [ inl e ↦ (zero, ap Some e) | inr later ↦ (let rest = place_of_pair ps q later in (suc rest.0, rest.1)) ]
