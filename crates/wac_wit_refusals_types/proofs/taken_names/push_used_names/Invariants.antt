use Rattle.wac_wit_refusals_types.specs.NamesTwice.{TakesName}
use Rattle.wac_wit_refusals_sites.specs.Sites.{BodySyntax}
use Rattle.wac_wit_refusals_types.specs.TypeSteps.{AreTaken, IsUsedThere}
use Rattle.wac_wit_scopes.specs.WitSources.{WitSources}
use Rattle.wac_wit_refusals_types.proofs.taken_names.push_used_names.Given as goal

abbrev pub invariant-loop-part : goal.invariant-loop-part
invariant-loop-part l = (of : WitSources) (b : BodySyntax) → IsUsedThere of b l.item l.used → AreTaken (TakesName of b) l.initial.names.items → AreTaken (TakesName of b) l.names.items
