-- The case of a tree, without what is in it: trees of different cases don't fit.
use Rattle.std.proofs.Common.{◌≡◌, refl}
use Rattle.wac_model.specs.ItemTree.{Kind, Kind-discrete, Shape, Shape-discrete, ItemTree, leaf, core_module, composite}
use Rattle.wac_model.specs.Order.{Fits, leaves, modules, composites}

pub data Case : Type 0 where
  leaf_case : (kind : Kind) → Case
  module_case : (kind : Kind) → Case
  composite_case : (kind : Kind) → (shape : Shape) → Case
  deriving Discrete as Case-discrete

pub cases_decided : Discrete Case
cases_decided = Case-discrete Kind-discrete Shape-discrete

abbrev pub case_of : ItemTree → Case
case_of (leaf k l) = leaf_case k
case_of (core_module k m) = module_case k
case_of (composite k s i e) = composite_case k s

pub Fits-case : {a b : ItemTree} → Fits a b → case_of a ≡ case_of b
Fits-case leaves = refl
Fits-case (modules p) = refl
Fits-case (composites p q) = refl
