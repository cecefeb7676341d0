-- In a sound collection a walk goes down, so it reaches what stands, and never returns.
use Rattle.std.proofs.Common.{◌≡◌, ◌<◌, ◌≤◌, ℕ, List, [], ◌∷◌, Option, Some, None, refl, arith}
use Rattle.wac_component.specs.Collection.{Collection}
use Rattle.wac_component.specs.Key.{Key, Entry, entry_at, entry_keys, optional_keys, next, Stands, AllStand}
use Rattle.wac_component.specs.Sound.{IsSound}
use Rattle.wac_component.specs.Height.{height, largest}
use Rattle.wac_component.specs.Reach.{IsAmong, here, there, Reaches, stay, step}
use Rattle.wac_component.specs.Laws.{WalksStand, NoWalkReturns}
use Rattle.wac_component.proofs.Unfolded.{entry_below}

pub among_below : (f : Key → ℕ) (k : Key) (ks : List Key) → IsAmong k ks → f k ≤ largest f ks
among_below f k [] m = elim m [ ]
among_below f k (_ ∷ ks) here = omega arith
among_below f k (j ∷ ks) (there m) = omega (arith, among_below f k ks m)

pub among_stands : (c : Collection) (k : Key) (ks : List Key) → IsAmong k ks → AllStand c ks → Stands c k
among_stands c k [] m h = elim m [ ]
among_stands c k (_ ∷ ks) here h = h.0
among_stands c k (j ∷ ks) (there m) h = among_stands c k ks m h.1

-- what an id leads to in one step is lower
pub next_below : (c : Collection) (k j : Key) → IsSound c → Stands c k → IsAmong j (next c k) → height c j < height c k
next_below c k j s st m = at_entry (entry_at c k) refl m
  where
    at_entry : (o : Option Entry) → entry_at c k ≡ o → IsAmong j (optional_keys entry_keys o) → height c j < height c k
    at_entry None is n = elim n [ ]
    at_entry (Some e) is n = omega (arith, entry_below c k e s st is, among_below (height c) j (entry_keys e) n)

pub next_stands : (c : Collection) (k j : Key) → IsSound c → Stands c k → IsAmong j (next c k) → Stands c j
next_stands c k j s st m = among_stands c j (next c k) m (s.standing k st)

pub walks_stand : WalksStand
walks_stand c s k t st stay = st
walks_stand c s k t st (step {j = j} m w) = walks_stand c s j t (next_stands c k j s st m) w

-- a walk never goes up
height_reached : (c : Collection) → IsSound c → (k t : Key) → Stands c k → Reaches c k t → height c t ≤ height c k
height_reached c s k t st stay = omega arith
height_reached c s k t st (step {j = j} m w) =
    omega (arith, height_reached c s j t (next_stands c k j s st m) w, next_below c k j s st m)

pub no_walk_returns : NoWalkReturns
no_walk_returns c s k j st m w =
    omega (arith, height_reached c s j k (next_stands c k j s st m) w, next_below c k j s st m)
