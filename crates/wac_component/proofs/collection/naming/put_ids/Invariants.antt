use Rattle.std.proofs.Common.{map, take}
use Rattle.wac_component.specs.Naming.{key_of, Puts}
use Rattle.wac_component.proofs.collection.naming.put_ids.Given as goal

abbrev pub invariant-loop-id : goal.invariant-loop-id
invariant-loop-id l = Puts (map key_of (take l.id-index l.ids)) (map key_of l.initial.reached.keys) (map key_of l.reached.keys)
