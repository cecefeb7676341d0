-- What an item reaches.
use Rattle.wac_component.specs.Collection.{Collection}
use Rattle.wac_component.specs.Key.{Key, item_keys}
use Rattle.wac_component.specs.Open.{OpenReaches}
use Rattle.wac_component.specs.Reach.{IsAmong}
use Rattle.wac_component.specs.Replacing.{NamesReach}
use Rattle.wac_component.specs.declared.items.ItemKind.{ItemKind}

-- an item reaches what the ids in it do
abbrev pub ItemReaches : Collection → ItemKind → Key → Type 0
ItemReaches c i k = NamesReach c (item_keys i) k

-- by a walk that passes through no import of a world
abbrev pub ItemOpenReaches : Collection → ItemKind → Key → Type 0
ItemOpenReaches c i k = (j : Key) × IsAmong j (item_keys i) × OpenReaches c j k
