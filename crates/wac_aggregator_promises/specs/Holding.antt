-- On which tracks interfaces are held, and what calls do to that.
use Rattle.std.specs.Prelude.{◌⊎◌, List, Contains}
use Rattle.wac_component.specs.Collection.{Collection}
use Rattle.wac_component.specs.Id.{Id}
use Rattle.wac_component.specs.Key.{interface_key}
use Rattle.wac_names.specs.Class.{Class}
use Rattle.wac_aggregator_promises.specs.Attempt.{IsHeld}
use Rattle.wac_aggregator_promises.specs.Call.{Call}
use Rattle.wac_aggregator_promises.specs.Entries.{IsIdentifiedOn}
use Rattle.wac_aggregator_promises.specs.OpenReach.{ItemOpenReaches}

-- an interface with an identifier on the track is held
pub record HoldsOn (c : Collection) (t : Class) : Type 0 where
  pub interface : Id
  pub held : IsHeld c (interface_key interface)
  pub is_on : IsIdentifiedOn c interface t

-- the item openly reaches such an interface
pub record ReachesOn (call : Call) (t : Class) : Type 0 where
  pub interface : Id
  pub reached : ItemOpenReaches call.types call.kind (interface_key interface)
  pub is_on : IsIdentifiedOn call.types interface t

-- after one call interfaces are held on no other tracks than before, and than those of interfaces
-- that the item openly reaches
abbrev pub HoldsNoOthers : Collection → Collection → Call → Type 0
HoldsNoOthers before after call = (t : Class) → HoldsOn after t → HoldsOn before t ⊎ ReachesOn call t

-- after these calls they are on no others than those of interfaces that an item openly reaches
abbrev pub HoldsReached : List Call → Collection → Type 0
HoldsReached calls c = (t : Class) → HoldsOn c t → (call : Call) × Contains calls call × ReachesOn call t
