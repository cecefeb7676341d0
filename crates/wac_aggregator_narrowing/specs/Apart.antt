-- What is apart from the shared entries of a collection.
use Rattle.std.specs.Prelude.{◌≡◌, List, Some}
use Rattle.wac_model.specs.Text.{Text}
use Rattle.wac_component.specs.Collection.{Collection}
use Rattle.wac_component.specs.Key.{Key, Each, Stands, AllStand}
use Rattle.wac_component.specs.Reach.{IsAmong, Reaches}
use Rattle.wac_component.specs.Sound.{IsSound}
use Rattle.wac_component.specs.Open.{import_next}
use Rattle.wac_component.specs.Entries.{identifier_at}
use Rattle.wac_aggregator_narrowing.specs.Identified.{IsCovered}

-- no walk leads from the id to a shared entry
abbrev pub IsKeyApart : Collection → List Key → Key → Type 0
IsKeyApart c ss k = (s : Key) → IsAmong s ss → Reaches c k s → ⊥

abbrev pub AreKeysApart : Collection → List Key → List Key → Type 0
AreKeysApart c ss ks = Each (IsKeyApart c ss) ks

-- nothing below an import of a world leads to a shared entry
abbrev pub IsIsolated : Collection → List Key → Type 0
IsIsolated c ss = (k : Key) → Stands c k → AreKeysApart c ss (import_next c k)

-- each of these is an interface with an identifier
abbrev pub AreIdentified : Collection → List Key → Type 0
AreIdentified c ss = (s : Key) → IsAmong s ss → (n : Text) × (identifier_at c s ≡ Some n)

-- a sound collection with shared entries: identified interfaces that stand, isolated, with
-- those to which they openly lead
pub record IsGood (c : Collection) (ss : List Key) : Type 0 where
  pub sound : IsSound c
  pub shared : AllStand c ss
  pub identified : AreIdentified c ss
  pub covered : Each (IsCovered c ss) ss
  pub isolated : IsIsolated c ss
