use Rattle.wac_wit_refusals_sites.specs.TypeLists.{AreElementsIn, AreWritten}
use Rattle.wac_wit_refusals_sites.specs.TypeSites.{TypedSyntax}
use Rattle.wac_wit_refusals_sites.proofs.type_parts.+type_parts.Given as goal

abbrev pub invariant-push_elements-loop-element : goal.invariant-push_elements-loop-element
invariant-push_elements-loop-element l = (s : TypedSyntax) → AreElementsIn s l.elements → AreWritten s l.initial.types.items → AreWritten s l.types.items
