-- Each id that stands has a position of its own, below the number of entries.
use Rattle.std.proofs.Common.{◌≡◌, ℕ, suc, zero, ◌+◌, ◌<◌, ◌≤◌, length, refl, arith, ap, sym, ◌∙◌, ◌⊎◌, inl, inr}
use Rattle.std.proofs.lemmas.List.{length-map}
use Rattle.wac_component.specs.Collection.{Collection}
use Rattle.wac_component.specs.Key.{Key, Sort, defined_sort, resource_sort, func_sort, interface_sort, world_sort, module_sort, entries, Stands}
use Rattle.wac_component.specs.Sound.{entry_count}
use Rattle.wac_component.proofs.Keys.{Key-parts}

-- the sorts in order

abbrev place : Sort → ℕ
place defined_sort = 0
place resource_sort = 1
place func_sort = 2
place interface_sort = 3
place world_sort = 4
place module_sort = 5

abbrev sort_at : ℕ → Sort
sort_at zero = defined_sort
sort_at (suc zero) = resource_sort
sort_at (suc (suc zero)) = func_sort
sort_at (suc (suc (suc zero))) = interface_sort
sort_at (suc (suc (suc (suc zero)))) = world_sort
sort_at (suc (suc (suc (suc (suc n))))) = module_sort

sort_at-place : (s : Sort) → sort_at (place s) ≡ s
sort_at-place defined_sort = refl
sort_at-place resource_sort = refl
sort_at-place func_sort = refl
sort_at-place interface_sort = refl
sort_at-place world_sort = refl
sort_at-place module_sort = refl

place_below : (s : Sort) → place s < 6
place_below defined_sort = omega arith
place_below resource_sort = omega arith
place_below func_sort = omega arith
place_below interface_sort = omega arith
place_below world_sort = omega arith
place_below module_sort = omega arith

-- how many entries the first n lists have
abbrev in_first : Collection → ℕ → ℕ
in_first c zero = 0
in_first c (suc n) = in_first c n + length (entries c (sort_at n))

less_or_last : (m n : ℕ) → m < suc n → (m < n) ⊎ (m ≡ n)
less_or_last m n h = grind arith

in_first-up : (c : Collection) (m n : ℕ) → m < n → in_first c (suc m) ≤ in_first c n
in_first-up c m zero h = absurd (omega arith)
in_first-up c m (suc n) h = elim (less_or_last m n h) [ inl lt ↦ omega (arith, in_first-up c m n lt) | inr is ↦ rw is (omega arith) ]

in_first-all : (c : Collection) → in_first c 6 ≡ entry_count c
in_first-all c = simp length-map (omega arith)

-- the position of an id: the lists before its own, and its index
abbrev pub position : Collection → Key → ℕ
position c k = in_first c (place k.sort) + k.id.index

position_within : (c : Collection) (k : Key) → Stands c k → position c k < in_first c (suc (place k.sort))
position_within c k h = rw (sort_at-place k.sort) (omega (arith, h.1))

pub position_below : (c : Collection) (k : Key) → Stands c k → position c k < entry_count c
position_below c k h = omega (arith, position_within c k h, in_first-up c (place k.sort) 6 (place_below k.sort), in_first-all c)

which : (m n : ℕ) → (m < n) ⊎ (n < m) ⊎ (m ≡ n)
which m n = grind arith

-- ids that stand and have one position are one
pub same_position : (c : Collection) (k j : Key) → Stands c k → Stands c j → position c k ≡ position c j → k ≡ j
same_position c k j hk hj e = by_cases (which (place k.sort) (place j.sort))
  where
    one_sort : k.sort ≡ j.sort → k ≡ j
    one_sort s = Key-parts k j s (hk.0 ∙ sym hj.0) (let q = ap (λ t. in_first c (place t)) s in omega (arith, e, q))

    by_cases : (place k.sort < place j.sort) ⊎ (place j.sort < place k.sort) ⊎ (place k.sort ≡ place j.sort) → k ≡ j
    by_cases (inl lt) = absurd (omega (arith, e, position_within c k hk, in_first-up c (place k.sort) (place j.sort) lt))
    by_cases (inr (inl lt)) = absurd (omega (arith, e, position_within c j hj, in_first-up c (place j.sort) (place k.sort) lt))
    by_cases (inr (inr is)) = one_sort (sym (sort_at-place k.sort) ∙ ap sort_at is ∙ sort_at-place j.sort)
