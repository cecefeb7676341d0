use Rattle.std.proofs.Common.{◌≡◌, rules, Err}
use Rattle.wac_component.specs.Visits.{own_id, CallsOn}
use Rattle.wac_component.proofs.VisitLemmas.{Remains-after, Remains-refused, MayVisit-here, MayVisit-after}
use Rattle.wac_component.proofs.visits.visit_items.Goals as goal

pub returns-in_err-visit_value : goal.returns-in_err-visit_value
returns-in_err-visit_value g c =
    let answer : c.from_residual.result ≡ Err c.in_err-visit_value.field-0.0 = search rules in
    record { visited = rw answer (Remains-refused (CallsOn g.F.FnMut c.args.types.now) own_id c.args.items.now c.loop-i.i c.item_at.result c.args.visitor.now c.loop-i.visitor c.visit_value.new.visitor c.in_err-visit_value.field-0.0 c.item_at.ensures c.loop-i.invariant.rest c.in_err-visit_value.ensures.visited) }

pub loop-i-preserved : goal.loop-i-preserved
loop-i-preserved g c = record {
  callable = MayVisit-after g.F.FnMut c.args.types.now own_id c.args.items.now c.loop-i.i c.item_at.result c.item_at.ensures c.loop-i.visitor c.visit_value.new.visitor c.loop-i.invariant.callable c.in_ok-visit_value.ensures.visited;
  rest = Remains-after (CallsOn g.F.FnMut c.args.types.now) own_id c.args.items.now c.loop-i.i c.item_at.result c.args.visitor.now c.loop-i.visitor c.visit_value.new.visitor c.item_at.ensures c.loop-i.invariant.rest c.in_ok-visit_value.ensures.visited;
}

pub visit_value-requires : goal.visit_value-requires
visit_value-requires g c = MayVisit-here g.F.FnMut c.args.types.now own_id c.args.items.now c.loop-i.i c.item_at.result c.item_at.ensures c.loop-i.visitor c.loop-i.invariant.callable
