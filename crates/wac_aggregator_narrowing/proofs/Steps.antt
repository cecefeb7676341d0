-- Each change of a collection with shared entries is a step.
use Rattle.std.proofs.Common.{◌≡◌, List, Some}
use Rattle.wac_model.specs.Text.{Text}
use Rattle.wac_component.specs.Id.{Id}
use Rattle.wac_component.specs.Collection.{Collection, InterfaceContent}
use Rattle.wac_component.specs.Growth.{with_entry}
use Rattle.wac_component.specs.Key.{Key, Entry, interface_entry, entry_keys, import_keys, interface_key, interface_keys, Each, AllStand}
use Rattle.wac_component.specs.Replacing.{NamesReach}
use Rattle.wac_component.specs.Sound.{IsSound}
use Rattle.wac_component.proofs.Adding.{Extends-with_entry}
use Rattle.wac_merge.specs.Built.{Origins, OnlyBuilds}
use Rattle.wac_aggregator_narrowing.specs.Apart.{AreKeysApart, IsGood}
use Rattle.wac_aggregator_narrowing.specs.Identified.{IsCovered}
use Rattle.wac_aggregator_narrowing.specs.Last.{last_key}
use Rattle.wac_aggregator_narrowing.specs.Narrows.{IsGoodStep, AddsShared, CanGrow, grown}
use Rattle.wac_aggregator_narrowing.proofs.Adding.{Narrows-refl, Narrows-trans, last_at, added_good, added_narrows, shared_good, shared_narrows}
use Rattle.wac_aggregator_narrowing.proofs.Building.{built_good, built_narrows}
use Rattle.wac_aggregator_narrowing.proofs.Growing.{grown_good, grown_narrows}
use Rattle.wac_aggregator_narrowing.proofs.Stopping.{KeepsStops-refl, KeepsStops-trans, KeepsStops-Extends, KeepsStops-grown}

pub IsGoodStep-refl : (c : Collection) (ss : List Key) → IsGood c ss → IsGoodStep c ss c ss
IsGoodStep-refl c ss g = record { good = g; narrows = Narrows-refl c ss; stops = KeepsStops-refl c ss }

pub IsGoodStep-trans : (c d e : Collection) (ss ts us : List Key) → IsGoodStep c ss d ts → IsGoodStep d ts e us → IsGoodStep c ss e us
IsGoodStep-trans c d e ss ts us g h = record {
  good = h.good;
  narrows = Narrows-trans c d e ss ts us g.narrows h.narrows;
  stops = KeepsStops-trans c d e ss ts us g.narrows.standing g.stops h.stops;
}

-- one entry more
pub adding_steps : (c : Collection) (ss : List Key) (e : Entry) → IsGood c ss → AllStand c (entry_keys e) → AreKeysApart c ss (import_keys e) → IsGoodStep c ss (with_entry c e) ss
adding_steps c ss e g named apart =
    record {
      good = added_good c ss e (last_key c e) (last_at c e) g named apart;
      narrows = added_narrows c ss e (last_key c e) (last_at c e) g named apart;
      stops = KeepsStops-Extends c (with_entry c e) g.sound (Extends-with_entry c e g.sound) ss ss (λ j m. m);
    }

-- one interface more, which is identified and shared from now on
pub sharing_steps : (c : Collection) (ss ts : List Key) (e : InterfaceContent) (n : Text) → AddsShared ss ts (last_key c (interface_entry e)) → IsGood c ss → AllStand c (interface_keys e) → e.id ≡ Some n
    → Each (IsCovered c ss) (interface_keys e) → IsGoodStep c ss (with_entry c (interface_entry e)) ts
sharing_steps c ss ts e n adds g named is covered =
    record {
      good = shared_good c ss (interface_entry e) (last_key c (interface_entry e)) (last_at c (interface_entry e)) g named tt ts adds n is covered;
      narrows = shared_narrows c ss (interface_entry e) (last_key c (interface_entry e)) (last_at c (interface_entry e)) g named tt ts adds n is covered;
      stops = KeepsStops-Extends c (with_entry c (interface_entry e)) g.sound (Extends-with_entry c (interface_entry e) g.sound) ss ts adds.kept;
    }

-- what meets and joins add
pub building_steps : (c d : Collection) (ss : List Key) (o : Origins) → IsGood c ss → IsSound d → OnlyBuilds c d o → IsGoodStep c ss d ss
building_steps c d ss o g sound only = record {
  good = built_good c d ss o g sound only;
  narrows = built_narrows c d ss o g only;
  stops = KeepsStops-Extends c d g.sound only.extends ss ss (λ j m. m);
}

-- a shared interface that grows
pub growing_steps : (c : Collection) (ss : List Key) (e : Id) (old new : InterfaceContent) → IsGood c ss → CanGrow c ss e old new → ¬ (NamesReach c (interface_keys new) (interface_key e)) → IsGoodStep c ss (grown c e new) ss
growing_steps c ss e old new g can no_cycle = record {
  good = grown_good c ss e old new g can no_cycle;
  narrows = grown_narrows c ss e old new g can no_cycle;
  stops = KeepsStops-grown c ss e old new g can no_cycle;
}
