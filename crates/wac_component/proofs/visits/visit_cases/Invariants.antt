use Rattle.std.proofs.Common.{drop}
use Rattle.std.specs.List.{flat_map}
use Rattle.wac_component.specs.Content.{types_of}
use Rattle.wac_component.specs.Visits.{optional_ids, CallsOn, MayVisit}
use Rattle.wac_component.proofs.VisitLemmas.{Remains}
use Rattle.wac_component.proofs.visits.visit_cases.Given as goal

abbrev pub invariant-loop-i : goal.invariant-loop-i
invariant-loop-i g l = record {
  callable : MayVisit g.F.FnMut l.types l.visitor (flat_map optional_ids (drop l.i (types_of l.cases.entries)));
  rest : Remains (CallsOn g.F.FnMut l.types) l.fn.visitor (flat_map optional_ids (types_of l.cases.entries)) l.visitor (flat_map optional_ids (drop l.i (types_of l.cases.entries)));
}
