use Rattle.std.proofs.Common.{◌≢◌, ◌-◌, map}
use Rattle.wac_component.specs.Key.{next}
use Rattle.wac_component.specs.Naming.{key_of}
use Rattle.wac_component.specs.Replacing.{NamesReach}
use Rattle.wac_component.specs.Sound.{entry_count}
use Rattle.wac_component.proofs.Search.{Searched}
use Rattle.wac_component.proofs.collection.Types.names_lead_to.Given as goal

abbrev pub invariant-loop-next : goal.invariant-loop-next
invariant-loop-next l = Searched (next l.self) (NamesReach l.self (map key_of l.ids)) (λ k. k ≢ key_of l.target) (map key_of l.ids) l.next (map key_of l.reached.keys)

abbrev pub decreases-loop-next : goal.decreases-loop-next
decreases-loop-next l = entry_count l.self - l.next
