-- The state of merging, and what its steps may do to it.
use Rattle.std.specs.Prelude.{◌≡◌, List, [], None, Some}
use Rattle.wac_model.specs.Text.{Text}
use Rattle.wac_component.specs.Collection.{Collection}
use Rattle.wac_component.specs.Key.{Key, Stands}
use Rattle.wac_component.specs.Sound.{IsSound}
use Rattle.wac_aggregator_memo.specs.Memo.{Remembered}
use Rattle.wac_aggregator_narrowing.specs.Apart.{IsKeyApart, IsGood}
use Rattle.wac_aggregator_narrowing.specs.Identified.{IsCovered}
use Rattle.wac_aggregator_narrowing.specs.Imports.{NamedImports, ImportsStand, ImportsCovered, ImportsFit}
use Rattle.wac_aggregator_narrowing.specs.Narrows.{Narrows, KeepsStops}
use Rattle.wac_aggregator_narrowing.specs.Standing.{StandsFor, IsCopy}

-- the own collection, its shared entries, where names lead, and the foreign ids that were taken
-- in, and those that were copied
pub record State : Type 0 where
  pub own : Collection
  pub shared : List Key
  pub imports : NamedImports
  pub taken : Remembered
  pub copies : Remembered

-- a state that remembers nothing, with no imports and no shared entry
pub record IsNewState (s : State) : Type 0 where
  pub sound : IsSound s.own
  pub shared : s.shared ≡ []
  pub imports : (n : Text) → s.imports n ≡ None
  pub taken : (k : Key) → s.taken k ≡ None
  pub copies : (k : Key) → s.copies k ≡ None

-- the shared entries are in order; imports and what was taken in stand, and openly lead only to
-- shared ones; copies stand, apart
pub record IsStateKept (s : State) : Type 0 where
  pub good : IsGood s.own s.shared
  pub imports : ImportsStand s.own s.imports
  pub imports_covered : ImportsCovered s.own s.shared s.imports
  pub taken : (theirs own : Key) → s.taken theirs ≡ Some own → Stands s.own own × IsCovered s.own s.shared own
  pub copies : (theirs own : Key) → s.copies theirs ≡ Some own → Stands s.own own × IsKeyApart s.own s.shared own

-- what is remembered of ids that carry the number of f stands for them there
pub record IsStateTrueOf (f : Collection) (s : State) : Type 0 where
  pub taken : (theirs own : Key) → s.taken theirs ≡ Some own → theirs.id.number ≡ f.number → StandsFor f s.own theirs own
  pub copies : (theirs own : Key) → s.copies theirs ≡ Some own → theirs.id.number ≡ f.number → IsCopy f s.own s.shared theirs own

-- equal numbers mean one collection
abbrev pub IsOneWith : Collection → Collection → Type 0
IsOneWith f g = g.number ≡ f.number → g ≡ f

-- what the taking in of parts of f may do, in one step or many; `IsTrue` says that what a state
-- remembers of a collection is true of it
pub record RunsTaking (IsTrue : Collection → State → Type 0) (f : Collection) (s t : State) : Type 0 where
  pub kept : IsStateKept s → IsStateKept t
  pub narrows : IsStateKept s → Narrows s.own s.shared t.own t.shared
  pub stops : IsStateKept s → KeepsStops s.own s.shared t.own t.shared
  pub imports : IsStateKept s → ImportsFit s.own s.imports t.own t.imports
  pub truly : IsStateKept s → (g : Collection) → IsOneWith f g → IsTrue g s → IsTrue g t
  pub taken : (theirs own : Key) → s.taken theirs ≡ Some own → t.taken theirs ≡ Some own
  pub copies : (theirs own : Key) → s.copies theirs ≡ Some own → t.copies theirs ≡ Some own
