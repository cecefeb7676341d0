-- What may become of a collection with shared entries.
use Rattle.std.specs.Prelude.{◌≡◌, ◌⊎◌, List, Some, None, slice_get, slice_set}
use Rattle.wac_model.specs.Text.{Text}
use Rattle.wac_model.specs.Order.{Fits}
use Rattle.wac_component.specs.Id.{Id}
use Rattle.wac_component.specs.Collection.{Collection, InterfaceContent}
use Rattle.wac_component.specs.Key.{Key, Each, Stands, AllStand, entry_at, item_keys, interface_key, interface_keys}
use Rattle.wac_component.specs.Reach.{IsAmong}
use Rattle.wac_component.specs.Tree.{item_tree}
use Rattle.wac_component.specs.declared.items.ItemKind.{ItemKind}
use Rattle.wac_component.specs.Entries.{identifier_at}
use Rattle.wac_checker_parts.specs.Externs.{AreServed}
use Rattle.wac_aggregator_narrowing.specs.Identified.{use_names_at, StopsAt, IsUnstopped, IsCovered}
use Rattle.wac_aggregator_narrowing.specs.Apart.{IsKeyApart, AreKeysApart, IsGood}

-- each of ts was shared, or didn't stand
abbrev pub SharesNew : Collection → List Key → List Key → Type 0
SharesNew c ss ts = (t : Key) → IsAmong t ts → IsAmong t ss ⊎ (¬ (Stands c t))

-- what stood in c stands in d, where it fits as it was asked for in c; no entry changed but shared
-- ones, and none is shared that stood and wasn't; what was apart from the shared entries is so
-- still, with its tree
pub record Narrows (c : Collection) (ss : List Key) (d : Collection) (ts : List Key) : Type 0 where
  pub number : d.number ≡ c.number
  pub standing : (k : Key) → Stands c k → Stands d k
  pub entries : (k : Key) → Stands c k → ¬ (IsAmong k ss) → entry_at d k ≡ entry_at c k
  pub shares : SharesNew c ss ts
  pub fits : (x : ItemKind) → AllStand c (item_keys x) → Fits (item_tree d x) (item_tree c x)
  pub apart : (k : Key) → Stands c k → IsKeyApart c ss k → IsKeyApart d ts k
  pub same : (x : ItemKind) → AllStand c (item_keys x) → AreKeysApart c ss (item_keys x) → item_tree d x ≡ item_tree c x

-- what stood in c keeps its identifier in d, and the names of its uses if it has none; an open walk
-- from it stops in d where one did in c; what leads only to shared interfaces does so still, and
-- where no open walk stopped it keeps its tree
pub record KeepsStops (c : Collection) (ss : List Key) (d : Collection) (ts : List Key) : Type 0 where
  pub shared : (k : Key) → IsAmong k ss → IsAmong k ts
  pub identifiers : (k : Key) → Stands c k → identifier_at d k ≡ identifier_at c k
  pub uses : (k : Key) → Stands c k → identifier_at c k ≡ None → use_names_at d k ≡ use_names_at c k
  pub stops : (k t : Key) (n : Text) → Stands c k → StopsAt d k t n → StopsAt c k t n
  pub covered : (k : Key) → Stands c k → IsCovered c ss k → IsCovered d ts k
  pub quiet : (x : ItemKind) → AllStand c (item_keys x) → Each (IsUnstopped c) (item_keys x) → item_tree d x ≡ item_tree c x

-- from a good collection to a good one, which narrows it
pub record IsGoodStep (c : Collection) (ss : List Key) (d : Collection) (ts : List Key) : Type 0 where
  pub good : IsGood d ts
  pub narrows : Narrows c ss d ts
  pub stops : KeepsStops c ss d ts

-- one more is shared
pub record AddsShared (before now : List Key) (k : Key) : Type 0 where
  pub is : IsAmong k now
  pub kept : (t : Key) → IsAmong t before → IsAmong t now
  pub only : (t : Key) → IsAmong t now → (t ≡ k) ⊎ IsAmong t before

-- the shared interface e may say `new` in place of `old`: it keeps its identifier, and names what
-- stands, leads only to shared interfaces, with exports that fit where the old ones did
pub record CanGrow (c : Collection) (ss : List Key) (e : Id) (old new : InterfaceContent) : Type 0 where
  pub is_shared : IsAmong (interface_key e) ss
  pub was : slice_get c.interfaces e.index ≡ Some old
  pub same_identifier : new.id ≡ old.id
  pub named : AllStand c (interface_keys new)
  pub covered : Each (IsCovered c ss) (interface_keys new)
  pub exports : AreServed c c new.exports old.exports

-- the collection in which it does
abbrev pub grown : Collection → Id → InterfaceContent → Collection
grown c e new = record c { interfaces = slice_set c.interfaces e.index new }
