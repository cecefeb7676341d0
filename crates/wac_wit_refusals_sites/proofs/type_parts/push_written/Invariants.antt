use Rattle.wac_wit_refusals_sites.specs.Sites.{BodySyntax}
use Rattle.wac_wit_refusals_sites.specs.TypeLists.{AreTypeExprsOf, AreWritten}
use Rattle.wac_wit_refusals_sites.specs.TypeSites.{HasTyped, TypedSyntax}
use Rattle.wac_wit_scopes.specs.WitSources.{WitSources}
use Rattle.wac_wit_refusals_sites.proofs.type_parts.push_written.Given as goal

abbrev pub invariant-loop-ty : goal.invariant-loop-ty
invariant-loop-ty l = (of : WitSources) (b : BodySyntax) (s : TypedSyntax) → HasTyped of b l.name s → AreWritten s l.types → AreTypeExprsOf of b l.initial.all.items → AreTypeExprsOf of b l.all.items
