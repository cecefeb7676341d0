-- What no narrowing of an item changes: all of it but the items in it.
use Rattle.wac_model.specs.ItemTree.{ItemTree, leaf, core_module, composite, no_items}
use Rattle.wac_aggregator_promises.specs.TreeSets.{HaveNoLowerBound}

-- the item, without what it imports and exports
abbrev pub bare : ItemTree → ItemTree
bare (leaf k l) = leaf k l
bare (core_module k m) = core_module k m
bare (composite k s i e) = composite k s no_items no_items

-- the two have no common lower bound, whatever they import and export
abbrev pub AreAlwaysApart : ItemTree → ItemTree → Type 0
AreAlwaysApart a b = HaveNoLowerBound (bare a) (bare b)
