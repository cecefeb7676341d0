use Rattle.std.proofs.Common.{◌≡◌, rules, Err}
use Rattle.wac_component.specs.Content.{types_of}
use Rattle.wac_component.specs.Visits.{optional_ids, CallsOn}
use Rattle.wac_component.proofs.VisitLemmas.{Remains-after, Remains-refused, MayVisit-here, MayVisit-after}
use Rattle.wac_component.proofs.visits.visit_cases.Goals as goal

pub returns-in_err-visit_optional : goal.returns-in_err-visit_optional
returns-in_err-visit_optional g c =
    let answer : c.from_residual.result ≡ Err c.in_err-visit_optional.field-0.0 = search rules in
    record { visited = rw answer (Remains-refused (CallsOn g.F.FnMut c.args.types.now) optional_ids (types_of c.args.cases.now.entries) c.loop-i.i c.value_at.result.now c.args.visitor.now c.loop-i.visitor c.visit_optional.new.visitor c.in_err-visit_optional.field-0.0 c.value_at.ensures c.loop-i.invariant.rest c.in_err-visit_optional.ensures.visited) }

pub loop-i-preserved : goal.loop-i-preserved
loop-i-preserved g c = record {
  callable = MayVisit-after g.F.FnMut c.args.types.now optional_ids (types_of c.args.cases.now.entries) c.loop-i.i c.value_at.result.now c.value_at.ensures c.loop-i.visitor c.visit_optional.new.visitor c.loop-i.invariant.callable c.in_ok-visit_optional.ensures.visited;
  rest = Remains-after (CallsOn g.F.FnMut c.args.types.now) optional_ids (types_of c.args.cases.now.entries) c.loop-i.i c.value_at.result.now c.args.visitor.now c.loop-i.visitor c.visit_optional.new.visitor c.value_at.ensures c.loop-i.invariant.rest c.in_ok-visit_optional.ensures.visited;
}

pub visit_optional-requires : goal.visit_optional-requires
visit_optional-requires g c = MayVisit-here g.F.FnMut c.args.types.now optional_ids (types_of c.args.cases.now.entries) c.loop-i.i c.value_at.result.now c.value_at.ensures c.loop-i.visitor c.loop-i.invariant.callable
