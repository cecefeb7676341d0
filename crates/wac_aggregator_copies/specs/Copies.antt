-- What copying does to the state of merging.
use Rattle.std.specs.Prelude.{◌≡◌, ◌<◌, ◌⊎◌, List, Some, None}
use Rattle.wac_component.specs.Collection.{Collection, AliasContent, UseContent}
use Rattle.wac_aggregator_memo.specs.EntryOrder.{HasOwn, ArePartsFirst}
use Rattle.wac_component.specs.Growth.{Extends}
use Rattle.wac_component.specs.Height.{height, keys_height}
use Rattle.wac_component.specs.Key.{Key, Each, Stands, next, alias_keys, interface_key}
use Rattle.wac_aggregator_memo.specs.Memo.{Remembered, memo_of}
use Rattle.wac_component.specs.Reach.{IsAmong, Reaches}
use Rattle.wac_component.specs.Tree.{root_name}
use Rattle.wac_aggregator_memo.specs.declared.memo.Memo.{Memo}
use Rattle.wac_merge.specs.Items.{ExternKinds}
use Rattle.wac_names.specs.Class.{class_of}
use Rattle.wac_aggregator_narrowing.specs.Remembers.{RemembersTruly}
use Rattle.wac_aggregator_narrowing.specs.State.{State, IsStateKept, RunsTaking}
use Rattle.wac_aggregator_narrowing.specs.Taking.{AreMapped, IsCopiedItem, IsCopiedKey, AreCopiedKeys}
use Rattle.wac_aggregator_reasons.specs.Split.{StaySplit}

-- a state in order with this collection and these copies, which remembers truly of f
pub record IsState (f c : Collection) (m : Memo) (s : State) : Type 0 where
  pub own : s.own ≡ c
  pub copies : s.copies ≡ memo_of m
  pub kept : IsStateKept s
  pub truly : RemembersTruly class_of f s

-- entries of f may be copied into c: there is such a state
pub record MayCopy (f c : Collection) (m : Memo) : Type 0 where
  pub state : State
  pub is : IsState f c m state

-- the state with another own collection, and other copies
abbrev pub moved : State → Collection → Memo → State
moved s d n = record s { own = d; copies = memo_of n }

-- a walk from the copy of one of these ids leads to the own entry
pub record IsBelowCopy (d : Collection) (n : Memo) (ks : List Key) (k : Key) : Type 0 where
  pub theirs : Key
  pub among : IsAmong theirs ks
  pub copy : Key
  pub noted : memo_of n theirs ≡ Some copy
  pub walk : Reaches d copy k

-- what copying these ids of f does to the own collection and to what was copied: entries are only
-- added, below copies of these ids, each state runs on to one of which the fact holds, no id is
-- noted that is higher than these, and what open walks lead to stays apart from copies and from
-- what is below imports
pub record Copies (f c : Collection) (m : Memo) (d : Collection) (n : Memo) (ks : List Key) (Holds : State → Type 0) : Type 0 where
  pub low : (k : Key) → keys_height f ks < height f k → memo_of m k ≡ None → memo_of n k ≡ None
  pub grows : (s : State) → IsState f c m s → Extends c d
  pub added : (s : State) → IsState f c m s → (k : Key) → Stands d k → Stands c k ⊎ IsBelowCopy d n ks k
  pub runs : (s : State) → IsState f c m s → RunsTaking (RemembersTruly class_of) f s (moved s d n) × Holds (moved s d n)
  pub splits : (s : State) → IsState f c m s → StaySplit s (moved s d n)

-- under the same names stand the copies of the items
abbrev pub AreItemsCopied : Collection → ExternKinds → ExternKinds → State → Type 0
AreItemsCopied f es ms s = AreMapped (IsCopiedItem f s) es ms

-- the own alias names copies of what the foreign one names
pub record IsCopiedAlias (f : Collection) (s : State) (a b : AliasContent) : Type 0 where
  pub keys : AreCopiedKeys f s (alias_keys a) (alias_keys b)
  pub source : root_name s.own b.source ≡ root_name f a.source

-- the own use is of a copy, under the same name
pub record IsCopiedUse (f : Collection) (s : State) (u v : UseContent) : Type 0 where
  pub name : v.name ≡ u.name
  pub interface : IsCopiedKey f s (interface_key u.interface) (interface_key v.interface)

-- the copy of the first id names that of the second
pub record NamesCopy (d : Collection) (n : Memo) (k j : Key) : Type 0 where
  pub copy : Key
  pub part : Key
  pub noted : memo_of n k ≡ Some copy
  pub part_noted : memo_of n j ≡ Some part
  pub named : IsAmong part (next d copy)

-- these ids of f have copies, and what was noted since names copies of what it names in f
pub record HasCopies (f c : Collection) (m : Memo) (d : Collection) (n : Memo) (ks : List Key) : Type 0 where
  pub copies : Copies f c m d n ks (λ s. Unit {0})
  pub has : Each (HasOwn (memo_of n)) ks
  pub named : (k j : Key) → HasOwn (memo_of n) k → IsAmong j (next f k) → HasOwn (memo_of m) k ⊎ NamesCopy d n k j

-- each of these ids comes after what it names, but for what was copied
abbrev pub AreToCopy : Collection → Remembered → List Key → Type 0
AreToCopy f m order = (ids : List Key) × ArePartsFirst f m ids order
