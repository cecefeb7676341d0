use Rattle.wac_wit_refusals_sites.specs.TypeLists.{AreFieldsIn, AreWritten}
use Rattle.wac_wit_refusals_sites.specs.TypeSites.{TypedSyntax}
use Rattle.wac_wit_refusals_sites.proofs.type_parts.push_fields.Given as goal

abbrev pub invariant-loop-field : goal.invariant-loop-field
invariant-loop-field l = (s : TypedSyntax) → AreFieldsIn s l.fields → AreWritten s l.initial.types.items → AreWritten s l.types.items
