-- Whether a borrowed handle stands in a value type (Component Model explainer,
-- "Type Definitions": `borrow`).
use Rattle.std.specs.Prelude.{Bool, true, false, ◌||◌}
use Rattle.wac_model.specs.ValueTree.{ValueTree, ValueTrees, node, no_parts, part, borrow}

abbrev mutual
  pub has_borrow : ValueTree → Bool
  has_borrow (node (borrow r) ts) = true
  has_borrow (node l ts) = have_borrow ts

  -- of one of these
  pub have_borrow : ValueTrees → Bool
  have_borrow no_parts = false
  have_borrow (part t ts) = has_borrow t || have_borrow ts
