use Rattle.std.proofs.Common.{◌+◌, ◌*◌, drop}
use Rattle.std.specs.List.{flat_map}
use Rattle.wac_component.specs.Content.{types_of, named}
use Rattle.wac_component.specs.Height.{height, keys_height}
use Rattle.wac_component.specs.Key.{interface_key, world_key, item_keys, named_keys}
use Rattle.wac_component.specs.Visits.{extern_ids, referred, CallsOn, MayVisit}
use Rattle.wac_component.proofs.VisitLemmas.{Remains}
use Rattle.wac_component.proofs.visits.+visits.Given as goal

abbrev pub decreases-visit_interface : goal.decreases-visit_interface
decreases-visit_interface g l = 3 * height l.types.now (interface_key l.id)

abbrev pub decreases-visit_world : goal.decreases-visit_world
decreases-visit_world g l = 3 * height l.types.now (world_key l.id)

abbrev pub decreases-visit_externs : goal.decreases-visit_externs
decreases-visit_externs g l = 3 * keys_height l.types.now (named_keys item_keys (named (λ k. k) l.externs.now.entries)) + 2

abbrev pub decreases-visit_extern : goal.decreases-visit_extern
decreases-visit_extern g l = 3 * keys_height l.types.now (item_keys l.kind) + 1

abbrev pub invariant-visit_externs-loop-i : goal.invariant-visit_externs-loop-i
invariant-visit_externs-loop-i g l = record {
  callable : MayVisit g.F.FnMut l.types l.visitor (flat_map (extern_ids (referred l.types)) (drop l.i (types_of l.externs.entries)));
  rest : Remains (CallsOn g.F.FnMut l.types) l.fn.visitor (flat_map (extern_ids (referred l.types)) (types_of l.externs.entries)) l.visitor (flat_map (extern_ids (referred l.types)) (drop l.i (types_of l.externs.entries)));
}
