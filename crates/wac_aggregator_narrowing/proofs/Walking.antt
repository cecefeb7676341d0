-- Walks, and what is apart from shared entries.
use Rattle.std.proofs.Common.{List, ◌⊎◌, inl, inr}
use Rattle.wac_component.specs.Collection.{Collection}
use Rattle.wac_component.specs.Key.{Key, next, Stands}
use Rattle.wac_component.specs.Open.{import_next, open_next, OpenReaches}
use Rattle.wac_component.specs.Open as walk
use Rattle.wac_component.specs.Reach.{IsAmong, Reaches, stay, step}
use Rattle.wac_component.proofs.Among.{among_each}
use Rattle.wac_component.proofs.OpenWalks.{import_or_open}
use Rattle.wac_component.proofs.Walks.{next_stands}
use Rattle.wac_aggregator_narrowing.specs.Apart.{IsKeyApart, IsGood}

-- parts of what is apart are apart
pub apart_next : (c : Collection) (ss : List Key) (k j : Key) → IsKeyApart c ss k → IsAmong j (next c k) → IsKeyApart c ss j
apart_next c ss k j h m s ms w = h s ms (step m w)

-- a walk to a shared entry is an open one
pub reaches_openly : (c : Collection) (ss : List Key) → IsGood c ss → (k t : Key) → Stands c k → IsAmong t ss → Reaches c k t → OpenReaches c k t
reaches_openly c ss g k t st mt stay = walk.stay
reaches_openly c ss g k t st mt (step {j = j} m w) = by_part (import_or_open c k j m) (reaches_openly c ss g j t (next_stands c k j g.sound st m) mt w)
  where
    by_part : IsAmong j (import_next c k) ⊎ IsAmong j (open_next c k) → OpenReaches c j t → OpenReaches c k t
    by_part (inl n) rest = absurd (among_each (IsKeyApart c ss) j (import_next c k) n (g.isolated k st) t mt w)
    by_part (inr n) rest = walk.step n rest
