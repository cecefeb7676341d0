-- What stood before a call, and what is so at a refusal.
use Rattle.std.specs.Prelude.{◌≡◌, ◌⊎◌, Some}
use Rattle.wac_model.specs.ItemTree.{ItemTree}
use Rattle.wac_component.specs.Collection.{Collection}
use Rattle.wac_component.specs.Growth.{Extends}
use Rattle.wac_component.specs.Tree.{item_tree}
use Rattle.wac_component.specs.declared.items.ItemKind.{ItemKind}
use Rattle.wac_aggregator_promises.specs.Attempt.{Attempt, Touches}
use Rattle.wac_aggregator_promises.specs.Call.{call_tree}
use Rattle.wac_aggregator_narrowing.specs.State.{State}
use Rattle.wac_aggregator_reasons.specs.Bare.{bare}

-- the import x on the name's track has the bare tree of the one that stood before the call, and the
-- own item y that of the call's item
pub record AreMerged (a : Attempt) (own : Collection) (x y : ItemKind) : Type 0 where
  pub tree : ItemTree
  pub stood : a.import ≡ Some tree
  pub import_bare : bare (item_tree own x) ≡ bare tree
  pub item_bare : bare (item_tree own y) ≡ bare (call_tree a.call)
  -- and where the item doesn't touch, the trees are equal
  pub same : Touches a ⊎ ((item_tree own x ≡ tree) × (item_tree own y ≡ call_tree a.call))

-- the collection was only added to, and the own item has the foreign one's tree
pub record IsUntouched (f : Collection) (s t : State) (x y : ItemKind) : Type 0 where
  pub extends : Extends s.own t.own
  pub same : item_tree t.own y ≡ item_tree f x
