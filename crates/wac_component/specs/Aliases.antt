-- What an alias is another name of, step by step (Component Model, "Type Definitions": a type that
-- is bound to a type index, and resource types by their bounds).
use Rattle.std.specs.Prelude.{◌≡◌, Some, slice_get}
use Rattle.wac_component.specs.Id.{Id}
use Rattle.wac_component.specs.Collection.{Collection, alias_of, ResourceContent, AliasContent}
use Rattle.wac_component.specs.declared.items.ValueType.{ValueType}
use Rattle.wac_component.specs.declared.items.ValueType.TheVariants.{Defined}

-- the second resource is reached from the first by steps from an alias to its source, and by
-- none where the first is no alias
pub data IsSourceOf (c : Collection) : Id → Id → Type 0 where
  itself : {r : Id} → IsSourceOf c r r
  from : {r s : Id} (e : ResourceContent) (a : AliasContent) → slice_get c.resources r.index ≡ Some e → e.alias ≡ Some a → IsSourceOf c a.source s → IsSourceOf c r s

-- the second value type is reached from the first by steps from an
-- alias to what it is another name of
pub data IsMeantBy (c : Collection) : ValueType → ValueType → Type 0 where
  same : {v : ValueType} → IsMeantBy c v v
  means : {w : ValueType} (d : Id) (of : ValueType) → slice_get c.defined d.index ≡ Some (alias_of of) → IsMeantBy c of w → IsMeantBy c (Defined d) w
