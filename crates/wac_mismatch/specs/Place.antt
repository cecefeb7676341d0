-- Where a check stands: two sides, and which of them is expected.
use Rattle.std.specs.Prelude.{◌≡◌}
use Rattle.wac_model.specs.ValueTree.{ValueTree}
use Rattle.wac_model.specs.CoreTree.{CoreTree, CoreFits}
use Rattle.wac_model.specs.ItemTree.{ItemTree}
use Rattle.wac_model.specs.Order.{Fits}
use Rattle.wac_mismatch.specs.declared.check.SubtypeCheck.{SubtypeCheck}
use Rattle.wac_mismatch.specs.declared.check.SubtypeCheck.TheVariants.{Covariant, Contravariant}

-- one side of a check: an item, a core extern, a value type, or a payload that isn't there
pub data Side : Type 0 where
  item_side : (tree : ItemTree) → Side
  core_side : (tree : CoreTree) → Side
  value_side : (tree : ValueTree) → Side
  absent : Side

-- two sides, and the direction in which they are checked
pub record Place : Type 0 where
  pub check : SubtypeCheck
  pub left : Side
  pub right : Side

abbrev pub place : SubtypeCheck → Side → Side → Place
place c a b = record { check = c; left = a; right = b }

-- the other direction
abbrev pub turned : SubtypeCheck → SubtypeCheck
turned Covariant = Contravariant
turned Contravariant = Covariant

-- what is expected, of the left and the right
abbrev pub expected_of : {X : Type 0} → SubtypeCheck → X → X → X
expected_of Covariant a b = b
expected_of Contravariant a b = a

-- what is found, of the left and the right
abbrev pub found_of : {X : Type 0} → SubtypeCheck → X → X → X
found_of Covariant a b = a
found_of Contravariant a b = b

-- a fact of what is expected and what is found, said of the left and the right
abbrev pub by_check : {X : Type 0} → SubtypeCheck → (X → X → Type 0) → X → X → Type 0
by_check c P a b = P (expected_of c a b) (found_of c a b)

-- the left side fits where the right one is asked for (Component Model explainer, "Subtyping"):
-- value types, and payloads that aren't there, fit only themselves
abbrev pub SideFits : Side → Side → Type 0
SideFits (item_side a) (item_side b) = Fits a b
SideFits (core_side a) (core_side b) = CoreFits a b
SideFits (value_side t) (value_side u) = t ≡ u
SideFits absent absent = Unit {0}
SideFits a b = ⊥
