use Rattle.std.proofs.Common.{refl, arith}
use Rattle.wac_component.specs.Key.{Stands}
use Rattle.wac_component.specs.Parts.{places, place_keys}
use Rattle.wac_component.proofs.Keys.{Each-flat_map_at}
use Rattle.wac_component.proofs.StandingLemmas.{Each-members, refused}
use Rattle.wac_component.proofs.collection.standing.parts_stand.Goals as goal

pub returns-then-not-place_stands : goal.returns-then-not-place_stands
returns-then-not-place_stands c = refused c.place_stands.result c.place_stands.ensures c.if-not-place_stands.true (Each-flat_map_at (Stands c.args.types.now) place_keys (places c.args.parts.now) c.loop-i.i c.get.result c.get.ensures)

pub returns : goal.returns
returns c = (λ _. Each-members (Stands c.args.types.now) place_keys (places c.args.parts.now) c.loop-i.i (omega arith) c.loop-i.invariant, λ _. refl)
