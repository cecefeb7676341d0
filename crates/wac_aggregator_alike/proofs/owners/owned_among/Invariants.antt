use Rattle.std.proofs.Common.{◌≡◌, filter, is_some, take}
use Rattle.wac_component.specs.Entries.{owner_at}
use Rattle.wac_aggregator_alike.proofs.owners.owned_among.Given as goal

abbrev pub invariant-loop-id : goal.invariant-loop-id
invariant-loop-id l = l.owned.items ≡ filter (λ r. is_some (owner_at l.types r)) (take l.id-index l.resources)
