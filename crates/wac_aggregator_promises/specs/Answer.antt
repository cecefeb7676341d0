-- What is answered to a list of calls, failed allocations aside.
use Rattle.std.specs.Prelude.{◌≡◌, ◌↔◌, ◌<◌, ◌+◌, ℕ, List, take, length, Option, Some, IsSome}
use Rattle.wac_model.specs.ItemTree.{ItemTree}
use Rattle.wac_model.specs.Same.{SameAt}
use Rattle.wac_names.specs.Class.{Class}
use Rattle.wac_aggregator_promises.specs.Call.{Call, IsItemOn}
use Rattle.wac_aggregator_promises.specs.Compatible.{IsCompatibleWitList}
use Rattle.wac_aggregator_promises.specs.Due.{IsDue}
use Rattle.wac_aggregator_promises.specs.PlainList.{IsCompatiblePlainList}
use Rattle.wac_aggregator_promises.specs.TreeSets.{IsMeetOf}
use Rattle.wac_aggregator_promises.specs.WitList.{IsTreeOn}

-- the tree of the import on each track that has one
abbrev pub ImportTrees : Type 0
ImportTrees = Class → Option ItemTree

-- all calls were accepted, and these imports stand; or the call with this
-- number, from 0 on, was refused
pub data CallsAnswer : Type 0 where
  accepted : (imports : ImportTrees) → CallsAnswer
  refused : (at : ℕ) → CallsAnswer

abbrev pub IsAccepted : CallsAnswer → Type 0
IsAccepted (accepted imports) = Unit {0}
IsAccepted (refused at) = ⊥

-- imports stand on exactly the due tracks, each the meet of the trees on its track
pub record AreMeets (Trees : Class → ItemTree → Type 0) (calls : List Call) (imports : ImportTrees) : Type 0 where
  pub due : (t : Class) → IsDue calls t ↔ IsSome (imports t)
  pub meets : (t : Class) (m : ItemTree) → imports t ≡ Some m → IsMeetOf m (Trees t)

-- the calls before this one are compatible, and those up to it aren't
pub record IsFirstRefused (IsCompatible : List Call → Type 0) (calls : List Call) (at : ℕ) : Type 0 where
  pub is_call : at < length calls
  pub before : IsCompatible (take at calls)
  pub with_it : ¬ IsCompatible (take (at + 1) calls)

-- accepted exactly where compatible
abbrev pub IsPlainAnswer : List Call → CallsAnswer → Type 0
IsPlainAnswer calls (accepted imports) = IsCompatiblePlainList calls × AreMeets (IsItemOn calls) calls imports
IsPlainAnswer calls (refused at) = IsFirstRefused IsCompatiblePlainList calls at

abbrev pub IsWitAnswer : List Call → CallsAnswer → Type 0
IsWitAnswer calls (accepted imports) = IsCompatibleWitList calls × AreMeets (IsTreeOn calls) calls imports
IsWitAnswer calls (refused at) = IsFirstRefused IsCompatibleWitList calls at

-- both accepted, with the same tracks and trees that are equal but for the
-- order of names; or both refused
abbrev pub AreSameAnswers : CallsAnswer → CallsAnswer → Type 0
AreSameAnswers (accepted is) (accepted js) = (t : Class) → SameAt (is t) (js t)
AreSameAnswers (refused m) (refused n) = Unit {0}
AreSameAnswers a b = ⊥
