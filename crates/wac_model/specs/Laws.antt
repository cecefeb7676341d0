-- The laws of the order.
use Rattle.std.specs.Prelude.{◌≡◌, ◌↔◌}
use Rattle.wac_model.specs.ItemTree.{Kind, Leaf, ItemTree, leaf}
use Rattle.wac_model.specs.Order.{Fits}
use Rattle.wac_model.specs.Same.{Same}

abbrev pub IsReflexive : Type 0
IsReflexive = (a : ItemTree) → Fits a a

abbrev pub IsTransitive : Type 0
IsTransitive = (a b c : ItemTree) → Fits a b → Fits b c → Fits a c

-- but for the order of names
abbrev pub IsAntisymmetric : Type 0
IsAntisymmetric = (a b : ItemTree) → (Fits a b × Fits b a) ↔ Same a b

-- functions, value types and resources, as items and as types
abbrev pub IsEqualityOnLeaves : Type 0
IsEqualityOnLeaves = (j k : Kind) (a b : Leaf) → Fits (leaf j a) (leaf k b) ↔ (leaf j a ≡ leaf k b)
