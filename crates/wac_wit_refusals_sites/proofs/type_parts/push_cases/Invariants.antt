use Rattle.wac_wit_refusals_sites.specs.TypeLists.{AreCasesIn, AreWritten}
use Rattle.wac_wit_refusals_sites.specs.TypeSites.{TypedSyntax}
use Rattle.wac_wit_refusals_sites.proofs.type_parts.push_cases.Given as goal

abbrev pub invariant-loop-case : goal.invariant-loop-case
invariant-loop-case l = (s : TypedSyntax) → AreCasesIn s l.cases → AreWritten s l.initial.types.items → AreWritten s l.types.items
