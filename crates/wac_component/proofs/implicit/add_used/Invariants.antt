use Rattle.std.proofs.Common.{drop}
use Rattle.std.specs.List.{flat_map}
use Rattle.wac_component.specs.Key.{AllStand, item_keys, named_keys}
use Rattle.wac_component.specs.Content.{types_of}
use Rattle.wac_component.specs.Implicit.{instances, AddsInstance}
use Rattle.wac_component.proofs.VisitLemmas.{Remains}
use Rattle.wac_component.proofs.ImplicitLemmas.{use_ids}
use Rattle.wac_component.proofs.implicit.add_used.Given as goal

abbrev pub invariant-loop-i : goal.invariant-loop-i
invariant-loop-i l = record {
  items : AllStand l.types (named_keys item_keys (instances l.interfaces.entries));
  rest : Remains (AddsInstance l.types) (instances l.fn.interfaces.entries) (flat_map use_ids (types_of l.uses.entries)) (instances l.interfaces.entries) (flat_map use_ids (drop l.i (types_of l.uses.entries)));
}
