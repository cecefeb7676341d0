-- Bounds of a list of trees: its meet is the greatest tree that is below each of them in the order
-- "fits", its join the least that is above each.
use Rattle.std.specs.Prelude.{List, All, Option, Some, None}
use Rattle.wac_model.specs.ItemTree.{ItemTree}
use Rattle.wac_model.specs.Order.{Fits}

-- m fits where each of these is asked for
abbrev pub IsLowerBound : ItemTree → List ItemTree → Type 0
IsLowerBound m ts = All (λ t. Fits m t) ts

-- the greatest lower bound
pub record IsMeet (m : ItemTree) (ts : List ItemTree) : Type 0 where
  pub is_below : IsLowerBound m ts
  pub is_greatest : (c : ItemTree) → IsLowerBound c ts → Fits c m

-- each of these fits where m is asked for
abbrev pub IsUpperBound : ItemTree → List ItemTree → Type 0
IsUpperBound m ts = All (λ t. Fits t m) ts

-- the least upper bound
pub record IsJoin (m : ItemTree) (ts : List ItemTree) : Type 0 where
  pub is_above : IsUpperBound m ts
  pub is_least : (c : ItemTree) → IsUpperBound c ts → Fits m c

-- the meet, or none where there is no lower bound
abbrev pub IsMeetIfAny : Option ItemTree → List ItemTree → Type 0
IsMeetIfAny None ts = (c : ItemTree) → ¬ (IsLowerBound c ts)
IsMeetIfAny (Some m) ts = IsMeet m ts

-- the join, or none where there is no upper bound
abbrev pub IsJoinIfAny : Option ItemTree → List ItemTree → Type 0
IsJoinIfAny None ts = (c : ItemTree) → ¬ (IsUpperBound c ts)
IsJoinIfAny (Some m) ts = IsJoin m ts
