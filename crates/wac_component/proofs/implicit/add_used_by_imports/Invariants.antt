use Rattle.std.proofs.Common.{drop}
use Rattle.std.specs.List.{flat_map}
use Rattle.wac_component.specs.Key.{AllStand, item_keys, named_keys}
use Rattle.wac_component.specs.Content.{types_of}
use Rattle.wac_component.specs.Implicit.{instances, used_by_import, AddsInstance}
use Rattle.wac_component.proofs.VisitLemmas.{Remains}
use Rattle.wac_component.proofs.implicit.add_used_by_imports.Given as goal

abbrev pub invariant-loop-i : goal.invariant-loop-i
invariant-loop-i l = record {
  items : AllStand l.types (named_keys item_keys (instances l.found.entries));
  rest : Remains (AddsInstance l.types) (instances l.fn.found.entries) (flat_map (used_by_import l.types) (types_of l.imports.entries)) (instances l.found.entries) (flat_map (used_by_import l.types) (drop l.i (types_of l.imports.entries)));
}
