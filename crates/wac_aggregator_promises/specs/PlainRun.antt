-- How plain items are handed in one after another.
use Rattle.std.specs.Prelude.{◌≡◌, ◌≢◌, ℕ, suc, List, [], ◌∷◌, Option, Some, None, if◌then◌else◌}
use Rattle.wac_model.specs.ItemTree.{ItemTree}
use Rattle.wac_model.specs.Order.{Fits}
use Rattle.wac_bounds.specs.MeetIn.{IsMeetIn}
use Rattle.wac_names.specs.Class.{Class, class_eq}
use Rattle.wac_aggregator_promises.specs.Answer.{ImportTrees, CallsAnswer, accepted, refused}
use Rattle.wac_aggregator_promises.specs.Call.{Call, call_track, call_tree}
use Rattle.wac_aggregator_promises.specs.TreeSets.{HaveNoLowerBound}

-- the item's tree where nothing stood, else the meet of the two
abbrev pub IsTreeMetWith : Option ItemTree → ItemTree → Option ItemTree → Type 0
IsTreeMetWith before tree None = ⊥
IsTreeMetWith None tree (Some after) = after ≡ tree
IsTreeMetWith (Some before) tree (Some after) = IsMeetIn Fits before tree (Some after)

-- the call is accepted: on its track the item is met with what stood, and all
-- other imports keep their trees
pub record IsPlainStep (before after : ImportTrees) (c : Call) : Type 0 where
  pub here : IsTreeMetWith (before (call_track c)) (call_tree c) (after (call_track c))
  pub elsewhere : (t : Class) → t ≢ call_track c → after t ≡ before t

-- the call is refused: an import stood on its track, and its tree and the
-- item's have no common lower bound
pub record IsPlainRefusal (before : ImportTrees) (c : Call) : Type 0 where
  pub tree : ItemTree
  pub stood : before (call_track c) ≡ Some tree
  pub no_bound : HaveNoLowerBound tree (call_tree c)

-- calls from this number on, each answered so, up to the first that is refused
pub data IsPlainRun : ℕ → ImportTrees → List Call → CallsAnswer → Type 0 where
  ends : {n : ℕ} {is : ImportTrees} → IsPlainRun n is [] (accepted is)
  goes_on : {n : ℕ} {is js : ImportTrees} {c : Call} {cs : List Call} {a : CallsAnswer} → IsPlainStep is js c → IsPlainRun (suc n) js cs a → IsPlainRun n is (c ∷ cs) a
  stops : {n : ℕ} {is : ImportTrees} {c : Call} {cs : List Call} → IsPlainRefusal is c → IsPlainRun n is (c ∷ cs) (refused n)

-- no import stands
abbrev pub no_import_trees : ImportTrees
no_import_trees t = None

-- another import on a track
abbrev pub with_import : ImportTrees → Class → ItemTree → ImportTrees
with_import is t tree s = if class_eq s t then Some tree else is s
