-- How long the longest walk from an id is.
use Rattle.std.specs.Prelude.{ℕ, suc, List, [], ◌∷◌, max}
use Rattle.wac_component.specs.Collection.{Collection}
use Rattle.wac_component.specs.Key.{Key, Entry, entry_keys}
use Rattle.wac_component.specs.Unfolding.{unfolded}

-- the largest of these numbers, at the ids
abbrev pub largest : (Key → ℕ) → List Key → ℕ
largest f [] = 0
largest f (k ∷ ks) = max (f k) (largest f ks)

abbrev pub entry_height : Entry → (Key → ℕ) → ℕ
entry_height e f = suc (largest f (entry_keys e))

-- how many entries the longest walk from an id passes through
abbrev pub height : Collection → Key → ℕ
height c = unfolded 0 entry_height c

-- the greatest height of these ids
abbrev pub keys_height : Collection → List Key → ℕ
keys_height c ks = largest (height c) ks
