-- Items from which no open walk stops at an interface with an identifier.
use Rattle.std.proofs.Common.{List, []}
use Rattle.wac_component.specs.Collection.{Collection}
use Rattle.wac_component.specs.Key.{Key, Each, item_keys}
use Rattle.wac_component.specs.Reach.{IsAmong}
use Rattle.wac_component.specs.Sound.{IsSound}
use Rattle.wac_component.specs.declared.items.ItemKind.{ItemKind}
use Rattle.wac_component.proofs.Among.{among_each, each_among}
use Rattle.wac_aggregator_narrowing.specs.Apart.{IsGood}
use Rattle.wac_aggregator_narrowing.specs.Identified.{IsCovered, IsUnstopped}
use Rattle.wac_aggregator_narrowing.proofs.Stopping.{open_stops, stop_identified, stop_reaches}
use Rattle.wac_aggregator_taking.specs.Growing.{IsOwnMeet}

unstopped_covered : (c : Collection) (ks : List Key) → Each (IsUnstopped c) ks → Each (IsCovered c []) ks
unstopped_covered c ks h = each_among (IsCovered c []) ks (λ k m t n walk is. let at = open_stops c k t n walk is in absurd (among_each (IsUnstopped c) k ks m h at.at at.name at.stops))

covered_unstopped : (c : Collection) (ks : List Key) → Each (IsCovered c []) ks → Each (IsUnstopped c) ks
covered_unstopped c ks h = each_among (IsUnstopped c) ks (λ k m t n stops. none (among_each (IsCovered c []) k ks m h t n (stop_reaches c k t n stops) (stop_identified c k t n stops)))
  where
    none : {k : Key} → IsAmong k [] → ⊥
    none m = elim m [ ]

-- so what two such items are met in is one
pub met_unstopped : (c d : Collection) (x y m : ItemKind) → IsSound c → IsOwnMeet c d x y m → Each (IsUnstopped c) (item_keys x) → Each (IsUnstopped c) (item_keys y) → Each (IsUnstopped d) (item_keys m)
met_unstopped c d x y m sound met hx hy = covered_unstopped d (item_keys m) (met.covered [] good (unstopped_covered c (item_keys x) hx) (unstopped_covered c (item_keys y) hy))
  where
    none : {k : Key} → IsAmong k [] → ⊥
    none m = elim m [ ]

    good : IsGood c []
    good = record { sound = sound; shared = tt; identified = λ s m. absurd (none m); covered = tt; isolated = λ k st. each_among _ _ (λ j m s among walk. none among) }
