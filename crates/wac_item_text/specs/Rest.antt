-- What is still to be put of a text.
use Rattle.std.specs.Prelude.{List}
use Rattle.std.specs.List.{flat_map}
use Rattle.wac_component.specs.Collection.{Collection}
use Rattle.wac_component.specs.Key.{AllStand, type_keys}
use Rattle.wac_item_text.specs.declared.rest.Pending.{Pending}

-- the ids in the types that are pending stand
abbrev pub AreStanding : Collection → List Pending → Type 0
AreStanding c pending = AllStand c (flat_map (λ d. type_keys d.ty) pending)
