use Rattle.std.proofs.Common.{◌≡◌}
use Rattle.wac_component.specs.Aliases.{IsSourceOf}
use Rattle.wac_component.specs.Id.{Id}
use Rattle.wac_component.specs.Height.{height}
use Rattle.wac_component.specs.Key.{Stands, resource_key}
use Rattle.wac_component.specs.Tree.{root_name}
use Rattle.wac_component.proofs.collection.Types.resolve_resource.Given as goal

abbrev pub invariant-loop-alias : goal.invariant-loop-alias
invariant-loop-alias l = (root_name l.self l.at ≡ root_name l.self l.fn.id) × Stands l.self (resource_key l.at) × ((r : Id) → IsSourceOf l.self l.at r → IsSourceOf l.self l.fn.id r)

abbrev pub decreases-loop-alias : goal.decreases-loop-alias
decreases-loop-alias l = height l.self (resource_key l.at)
