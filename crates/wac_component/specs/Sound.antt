-- Collections in which each id leads to an entry, and no walk along ids leads back to its start.
use Rattle.std.specs.Prelude.{ℕ, ◌+◌, length, Bool, false, IsTrue, zero, suc}
use Rattle.std.specs.List.{list_all}
use Rattle.wac_component.specs.Collection.{Collection}
use Rattle.wac_component.specs.Key.{Key, Stands, AllStand, next}

-- the number of entries
abbrev pub entry_count : Collection → ℕ
entry_count c = length c.defined + length c.resources + length c.funcs + length c.interfaces + length c.worlds + length c.modules

-- each walk from the id ends within n steps
abbrev pub walks_end : ℕ → Collection → Key → Bool
walks_end zero c k = false
walks_end (suc n) c k = list_all (walks_end n c) (next c k)

-- a walk that leads back to its start has no end, and a walk that
-- doesn't passes through no entry twice
pub record IsSound (c : Collection) : Type 0 where
  pub standing : (k : Key) → Stands c k → AllStand c (next c k)
  pub ending : (k : Key) → Stands c k → IsTrue (walks_end (entry_count c) c k)
