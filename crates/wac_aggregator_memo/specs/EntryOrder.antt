-- The order in which entries can be made anew: each after those that it names.
use Rattle.std.specs.Prelude.{◌≡◌, ◌<◌, ◌++◌, ◌⊎◌, ℕ, suc, List, [], ◌∷◌, Some, None, is_some, map, take, slice_get, IsTrue}
use Rattle.std.specs.List.{sum_by}
use Rattle.wac_component.specs.Collection.{Collection}
use Rattle.wac_component.specs.Key.{Key, Entry, Each, AllStand, entry_keys, next}
use Rattle.wac_component.specs.Reach.{IsAmong}
use Rattle.wac_component.specs.Unfolding.{unfolded}
use Rattle.wac_aggregator_memo.specs.Memo.{Remembered}
use Rattle.wac_component.specs.Naming.{key_of}
use Rattle.wac_aggregator_memo.specs.declared.order.Task.{Task}
use Rattle.wac_aggregator_memo.specs.declared.order.Task.TheVariants.{Enter, List as ListIt}

-- an own entry stands for the id
abbrev pub HasOwn : Remembered → Key → Type 0
HasOwn m k = IsTrue (is_some (m k))

-- one does, or the id is one of these
abbrev pub HasOwnOr : Remembered → List Key → Key → Type 0
HasOwnOr m ks k = HasOwn m k ⊎ IsAmong k ks

-- a walk leads from one of the ids to this one, and goes on from none for which an entry stands
pub data IsNeeded (c : Collection) (m : Remembered) (ids : List Key) : Key → Type 0 where
  root : {k : Key} → IsAmong k ids → IsNeeded c m ids k
  onward : {j k : Key} → m j ≡ None → IsAmong k (next c j) → IsNeeded c m ids j → IsNeeded c m ids k

-- these ids stand and are needed for those, each comes after what it names, and those are among
-- them, but for what has an own entry
pub record ArePartsFirst (c : Collection) (m : Remembered) (ids order : List Key) : Type 0 where
  pub stand : AllStand c order
  pub needed : Each (IsNeeded c m ids) order
  pub after : (i : ℕ) (k : Key) → slice_get order i ≡ Some k → Each (HasOwnOr m (take i order)) (next c k)
  pub has : Each (HasOwnOr m order) ids

-- the id of a task
abbrev pub task_key : Task → Key
task_key (Enter e) = key_of e
task_key (ListIt e) = key_of e

abbrev pub task_keys : List Task → List Key
task_keys ts = map task_key ts

-- the list from its end
abbrev pub backwards : {A : Type 0} → List A → List A
backwards [] = []
backwards (x ∷ xs) = backwards xs ++ x ∷ []

-- what the entry to be listed names has an own entry, was listed, or is entered first: by a task
-- that comes after it in the list
abbrev pub IsReady : Collection → Remembered → List Key → Task → List Task → Type 0
IsReady c m order (Enter e) above = Unit {0}
IsReady c m order (ListIt e) above = Each (HasOwnOr m (order ++ task_keys above)) (next c (key_of e))

abbrev pub AreReady : Collection → Remembered → List Key → List Task → Type 0
AreReady c m order [] = Unit {0}
AreReady c m order (t ∷ above) = IsReady c m order t above × AreReady c m order above

-- how many tasks an entry comes to, did nothing stand for any, and tasks do
abbrev pub entry_work : Entry → (Key → ℕ) → ℕ
entry_work e f = suc (suc (sum_by f (entry_keys e)))

abbrev pub entering_work : Collection → Key → ℕ
entering_work c = unfolded 0 entry_work c

abbrev pub task_work : Collection → Task → ℕ
task_work c (Enter e) = entering_work c (key_of e)
task_work c (ListIt e) = 1

abbrev pub tasks_work : Collection → List Task → ℕ
tasks_work c ts = sum_by (task_work c) ts

-- a task was done: the entry was listed, or more tasks were put, into what it names and then to
-- list it, or it had an own entry
pub record IsDone (c : Collection) (m : Remembered) (t : Task) (before : List Key) (tasks : List Task) (now : List Key) (rest : List Task) : Type 0 where
  pub more : List Task
  pub put : rest ≡ tasks ++ more
  pub due : (k : Key) → IsAmong k (before ++ task_key t ∷ []) → HasOwnOr m (now ++ task_keys more) k
  pub ready : AreReady c m now more
  pub order : (now ≡ before) ⊎ ((now ≡ before ++ task_key t ∷ []) × (IsReady c m before t [] → Each (HasOwnOr m before) (next c (task_key t))))
  pub needed : (ids : List Key) → IsNeeded c m ids (task_key t) → Each (IsNeeded c m ids) (task_keys more)
  pub less : tasks_work c more < task_work c t
