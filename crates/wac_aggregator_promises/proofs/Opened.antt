-- What an item openly reaches it reaches.
use Rattle.wac_component.specs.Collection.{Collection}
use Rattle.wac_component.specs.Key.{Key}
use Rattle.wac_component.specs.declared.items.ItemKind.{ItemKind}
use Rattle.wac_component.proofs.OpenWalks.{opens_reach}
use Rattle.wac_aggregator_promises.specs.OpenReach.{ItemReaches, ItemOpenReaches}

pub item_reaches : (c : Collection) (i : ItemKind) (k : Key) → ItemOpenReaches c i k → ItemReaches c i k
item_reaches c i k w = (w.0, w.1, opens_reach c w.0 k w.2)
