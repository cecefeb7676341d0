use Rattle.std.proofs.Common.{map, arith}
use Rattle.wac_component.specs.Naming.{key_of}
use Rattle.wac_component.specs.Parts.{places, place_keys}
use Rattle.wac_component.proofs.PartLemmas.{listed_after, listed_all}
use Rattle.wac_component.proofs.collection.naming.push_parts.Goals as goal

pub loop-i-preserved : goal.loop-i-preserved
loop-i-preserved c = listed_after place_keys (places c.args.parts.now) c.loop-i.i c.get.result c.get.ensures (map key_of c.loop-i.ids.items) (map key_of c.push_id.new.ids.items) _ (rw c.place_id.ensures at c.in_ok-push_id.ensures) c.loop-i.invariant

pub returns : goal.returns
returns c = listed_all place_keys (places c.args.parts.now) c.loop-i.i (omega arith) (map key_of c.loop-i.ids.items) _ c.loop-i.invariant
