use Rattle.std.proofs.Common.{◌≡◌, rules, Err, arith}
use Rattle.std.proofs.lemmas.List.{length-map}
use Rattle.wac_component.specs.Content.{types_of, interface_content, world_content}
use Rattle.wac_component.specs.Visits.{extern_ids, externs_ids, referred, CallsOn}
use Rattle.wac_component.proofs.Members.{exports_stand, exports_lower, world_imports_stand, world_imports_lower, world_exports_stand, world_exports_lower}
use Rattle.wac_component.proofs.VisitLemmas.{VisitsEach-append, VisitsEach-refused, MayVisit-front, MayVisit-rest, MayVisit-here, MayVisit-after, Remains-after, Remains-refused, Remains-done, flat_map-named, referred-interface, referred-world, extern-stands, extern-lower}
use Rattle.wac_component.proofs.visits.+visits.Goals as goal

pub visit_externs-visit_extern-requires : goal.visit_externs-visit_extern-requires
visit_externs-visit_extern-requires g t c κs h =
    let lower = extern-lower c.args.types.now c.args.externs.now.entries c.loop-i.i c.value_at.result.now c.value_at.ensures in
    let standing = extern-stands c.args.types.now c.args.externs.now.entries c.loop-i.i c.value_at.result.now c.value_at.ensures c.requires.standing in
    (omega (arith, lower), (h.0, (h.1, (standing, MayVisit-here g.F.FnMut c.args.types.now (extern_ids (referred c.args.types.now)) (types_of c.args.externs.now.entries) c.loop-i.i c.value_at.result.now c.value_at.ensures c.loop-i.visitor c.loop-i.invariant.callable))))

pub visit_externs-returns-in_err-visit_extern : goal.visit_externs-returns-in_err-visit_extern
visit_externs-returns-in_err-visit_extern g t c =
    let answer : c.from_residual.result ≡ Err c.in_err-visit_extern.field-0.0 = search rules in
    record { visited = rw (answer, flat_map-named (extern_ids (referred c.args.types.now)) c.args.externs.now.entries) (Remains-refused (CallsOn g.F.FnMut c.args.types.now) (extern_ids (referred c.args.types.now)) (types_of c.args.externs.now.entries) c.loop-i.i c.value_at.result.now c.args.visitor.now c.loop-i.visitor c.visit_extern.new.visitor c.in_err-visit_extern.field-0.0 c.value_at.ensures c.loop-i.invariant.rest c.in_err-visit_extern.ensures.visited) }

pub visit_externs-loop-i-preserved : goal.visit_externs-loop-i-preserved
visit_externs-loop-i-preserved g t c = record {
  callable = MayVisit-after g.F.FnMut c.args.types.now (extern_ids (referred c.args.types.now)) (types_of c.args.externs.now.entries) c.loop-i.i c.value_at.result.now c.value_at.ensures c.loop-i.visitor c.visit_extern.new.visitor c.loop-i.invariant.callable c.in_ok-visit_extern.ensures.visited;
  rest = Remains-after (CallsOn g.F.FnMut c.args.types.now) (extern_ids (referred c.args.types.now)) (types_of c.args.externs.now.entries) c.loop-i.i c.value_at.result.now c.args.visitor.now c.loop-i.visitor c.visit_extern.new.visitor c.value_at.ensures c.loop-i.invariant.rest c.in_ok-visit_extern.ensures.visited;
}

pub visit_externs-returns : goal.visit_externs-returns
visit_externs-returns g t c =
    record { visited = rw (flat_map-named (extern_ids (referred c.args.types.now)) c.args.externs.now.entries) (Remains-done (CallsOn g.F.FnMut c.args.types.now) (extern_ids (referred c.args.types.now)) (types_of c.args.externs.now.entries) c.loop-i.i c.args.visitor.now c.loop-i.visitor (simp length-map (omega arith)) c.loop-i.invariant.rest) }

pub visit_interface-visit_externs-requires : goal.visit_interface-visit_externs-requires
visit_interface-visit_externs-requires g t c κs h =
    let named = interface_content c.index.result.now in
    let lower = exports_lower c.args.types.now named in
    (omega (arith, lower, c.index.ensures.lower), (h.0, (h.1, (exports_stand c.args.types.now named c.index.ensures.standing, rw (referred-interface c.args.types.now c.args.id named c.sound.ensures c.requires.standing c.index.ensures.entry) at c.requires.callable))))

pub visit_interface-returns : goal.visit_interface-returns
visit_interface-returns g t c =
    record { visited = rw (referred-interface c.args.types.now c.args.id (interface_content c.index.result.now) c.sound.ensures c.requires.standing c.index.ensures.entry) c.visit_externs.ensures.visited }

pub visit_world-visit_externs-requires : goal.visit_world-visit_externs-requires
visit_world-visit_externs-requires g t c κs h =
    let named = world_content c.index-world.result.now in
    let lower = world_imports_lower c.args.types.now named in
    (omega (arith, lower, c.index-world.ensures.lower), (h.0, (h.1, (world_imports_stand c.args.types.now named c.index-world.ensures.standing, MayVisit-front g.F.FnMut c.args.types.now (externs_ids (referred c.args.types.now) (world_content c.index-world.result.now).imports) (externs_ids (referred c.args.types.now) (world_content c.index-world.result.now).exports) c.args.visitor.now (rw (referred-world c.args.types.now c.args.id (world_content c.index-world.result.now) c.sound.ensures c.requires.standing c.index-world.ensures.entry) at c.requires.callable)))))

pub visit_world-returns-in_err-visit_externs : goal.visit_world-returns-in_err-visit_externs
visit_world-returns-in_err-visit_externs g t c =
    let answer : c.from_residual.result ≡ Err c.in_err-visit_externs.field-0.0 = search rules in
    record {
      visited = rw (answer, referred-world c.args.types.now c.args.id (world_content c.index-world.result.now) c.sound.ensures c.requires.standing c.index-world.ensures.entry)
          (VisitsEach-refused (CallsOn g.F.FnMut c.args.types.now) (externs_ids (referred c.args.types.now) (world_content c.index-world.result.now).imports) (externs_ids (referred c.args.types.now) (world_content c.index-world.result.now).exports) c.args.visitor.now c.visit_externs.new.visitor c.in_err-visit_externs.field-0.0 c.in_err-visit_externs.ensures.visited);
    }

pub visit_world-visit_externs-requires-2 : goal.visit_world-visit_externs-requires-2
visit_world-visit_externs-requires-2 g t c κs h =
    let named = world_content c.index-world.result.now in
    let lower = world_exports_lower c.args.types.now named in
    (omega (arith, lower, c.index-world.ensures.lower), (h.0, (h.1, (world_exports_stand c.args.types.now named c.index-world.ensures.standing, MayVisit-rest g.F.FnMut c.args.types.now (externs_ids (referred c.args.types.now) (world_content c.index-world.result.now).imports) (externs_ids (referred c.args.types.now) (world_content c.index-world.result.now).exports) c.args.visitor.now c.visit_externs.new.visitor (rw (referred-world c.args.types.now c.args.id (world_content c.index-world.result.now) c.sound.ensures c.requires.standing c.index-world.ensures.entry) at c.requires.callable) c.in_ok-visit_externs.ensures.visited))))

pub visit_world-returns : goal.visit_world-returns
visit_world-returns g t c =
    record {
      visited = rw (referred-world c.args.types.now c.args.id (world_content c.index-world.result.now) c.sound.ensures c.requires.standing c.index-world.ensures.entry)
          (VisitsEach-append (CallsOn g.F.FnMut c.args.types.now) (externs_ids (referred c.args.types.now) (world_content c.index-world.result.now).imports) (externs_ids (referred c.args.types.now) (world_content c.index-world.result.now).exports) c.args.visitor.now c.visit_externs.new.visitor c.visit_externs-2.new.visitor c.visit_externs-2.result c.in_ok-visit_externs.ensures.visited c.visit_externs-2.ensures.visited);
    }

pub visit_externs-loop-i-init : goal.visit_externs-loop-i-init
visit_externs-loop-i-init g t c = record {
  callable = rw (flat_map-named (extern_ids (referred c.args.types.now)) c.args.externs.now.entries) at c.requires.callable;
  rest = λ r h v. v;
}
