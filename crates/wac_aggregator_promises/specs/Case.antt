-- The case of an item, without what is in it.
use Rattle.wac_model.specs.ItemTree.{Kind, ItemTree, leaf, core_module, composite, resource, func, value, interface, world}

-- the case of an item, or of the type of one
pub data ItemCase : Type 0 where
  resource_case : (kind : Kind) → ItemCase
  func_case : (kind : Kind) → ItemCase
  value_case : (kind : Kind) → ItemCase
  module_case : (kind : Kind) → ItemCase
  interface_case : (kind : Kind) → ItemCase
  world_case : (kind : Kind) → ItemCase

abbrev pub case_of : ItemTree → ItemCase
case_of (leaf k (resource r)) = resource_case k
case_of (leaf k (func f)) = func_case k
case_of (leaf k (value v)) = value_case k
case_of (core_module k m) = module_case k
case_of (composite k interface i e) = interface_case k
case_of (composite k world i e) = world_case k
