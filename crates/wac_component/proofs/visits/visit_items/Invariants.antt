use Rattle.std.proofs.Common.{drop}
use Rattle.std.specs.List.{flat_map}
use Rattle.wac_component.specs.Visits.{own_id, CallsOn, MayVisit}
use Rattle.wac_component.proofs.VisitLemmas.{Remains}
use Rattle.wac_component.proofs.visits.visit_items.Given as goal

abbrev pub invariant-loop-i : goal.invariant-loop-i
invariant-loop-i g l = record {
  callable : MayVisit g.F.FnMut l.types l.visitor (flat_map own_id (drop l.i l.items));
  rest : Remains (CallsOn g.F.FnMut l.types) l.fn.visitor (flat_map own_id l.items) l.visitor (flat_map own_id (drop l.i l.items));
}
