-- Open walks.
use Rattle.std.proofs.Common.{◌⊎◌, inl, inr, Option, Some, None}
use Rattle.wac_component.specs.Collection.{Collection}
use Rattle.wac_component.specs.Key.{Key, Entry, entry_at, entry_keys, import_keys, other_keys, optional_keys, next, Stands, AllStand}
use Rattle.wac_component.specs.Open.{import_next, open_next, OpenReaches}
use Rattle.wac_component.specs.Open as walk
use Rattle.wac_component.specs.Reach.{IsAmong, Reaches, stay, step}
use Rattle.wac_component.specs.Sound.{IsSound}
use Rattle.wac_component.proofs.Among.{each_among}
use Rattle.wac_component.proofs.ImportKeys.{imports-apart}
use Rattle.wac_component.proofs.Walks.{next_stands}

-- an id in an entry is imported, or open
pub import_or_open : (c : Collection) (k j : Key) → IsAmong j (next c k) → IsAmong j (import_next c k) ⊎ IsAmong j (open_next c k)
import_or_open c k j m = at_entry (entry_at c k) m
  where
    at_entry : (o : Option Entry) → IsAmong j (optional_keys entry_keys o) → IsAmong j (optional_keys import_keys o) ⊎ IsAmong j (optional_keys other_keys o)
    at_entry None n = elim n [ ]
    at_entry (Some e) n = (imports-apart e j).0 n

pub import_in_next : (c : Collection) (k j : Key) → IsAmong j (import_next c k) → IsAmong j (next c k)
import_in_next c k j m = at_entry (entry_at c k) m
  where
    at_entry : (o : Option Entry) → IsAmong j (optional_keys import_keys o) → IsAmong j (optional_keys entry_keys o)
    at_entry None n = elim n [ ]
    at_entry (Some e) n = (imports-apart e j).1 (inl n)

pub open_in_next : (c : Collection) (k j : Key) → IsAmong j (open_next c k) → IsAmong j (next c k)
open_in_next c k j m = at_entry (entry_at c k) m
  where
    at_entry : (o : Option Entry) → IsAmong j (optional_keys other_keys o) → IsAmong j (optional_keys entry_keys o)
    at_entry None n = elim n [ ]
    at_entry (Some e) n = (imports-apart e j).1 (inr n)

pub imports_stand : (c : Collection) → IsSound c → (k : Key) → Stands c k → AllStand c (import_next c k)
imports_stand c s k st = each_among (Stands c) (import_next c k) (λ j m. next_stands c k j s st (import_in_next c k j m))

pub open_stands : (c : Collection) → IsSound c → (k j : Key) → Stands c k → IsAmong j (open_next c k) → Stands c j
open_stands c s k j st m = next_stands c k j s st (open_in_next c k j m)

-- an open walk is a walk
pub opens_reach : (c : Collection) (k t : Key) → OpenReaches c k t → Reaches c k t
opens_reach c k t walk.stay = stay
opens_reach c k t (walk.step {j = j} m w) = step (open_in_next c k j m) (opens_reach c j t w)

pub opens_stand : (c : Collection) → IsSound c → (k t : Key) → Stands c k → OpenReaches c k t → Stands c t
opens_stand c s k t st walk.stay = st
opens_stand c s k t st (walk.step {j = j} m w) = opens_stand c s j t (open_stands c s k j st m) w

pub OpenReaches-trans : (c : Collection) (k j t : Key) → OpenReaches c k j → OpenReaches c j t → OpenReaches c k t
OpenReaches-trans c k j t walk.stay v = v
OpenReaches-trans c k j t (walk.step {j = i} m w) v = walk.step m (OpenReaches-trans c i j t w v)
