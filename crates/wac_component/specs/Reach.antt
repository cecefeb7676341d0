-- What a walk along ids leads to.
use Rattle.std.specs.Prelude.{List, ◌∷◌}
use Rattle.wac_component.specs.Collection.{Collection}
use Rattle.wac_component.specs.Key.{Key, next}

-- the id is one of the list
pub data IsAmong (k : Key) : List Key → Type 0 where
  here : {ks : List Key} → IsAmong k (k ∷ ks)
  there : {j : Key} {ks : List Key} → IsAmong k ks → IsAmong k (j ∷ ks)

-- a walk of no step or more leads from one id to the other
pub data Reaches (c : Collection) : Key → Key → Type 0 where
  stay : {k : Key} → Reaches c k k
  step : {k j t : Key} → IsAmong j (next c k) → Reaches c j t → Reaches c k t
