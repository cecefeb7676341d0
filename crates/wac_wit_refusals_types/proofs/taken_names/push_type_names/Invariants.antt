use Rattle.wac_wit_refusals_sites.specs.Judging.{Judges}
use Rattle.wac_wit_refusals_types.specs.NamesTwice.{TakesName}
use Rattle.wac_wit_refusals_sites.specs.Sites.{BodySyntax}
use Rattle.wac_wit_refusals_types.specs.TypeSteps.{AreTaken}
use Rattle.wac_wit_refusals_sites.specs.TypeLists.{AreTypesOf}
use Rattle.wac_wit_scopes.specs.WitSources.{WitSources}
use Rattle.wac_wit_refusals_types.proofs.taken_names.push_type_names.Given as goal

abbrev pub invariant-loop-placed : goal.invariant-loop-placed
invariant-loop-placed l = (of : WitSources) (b : BodySyntax) → Judges of l.judge → AreTypesOf b l.types → AreTaken (TakesName of b) l.initial.names.items → AreTaken (TakesName of b) l.names.items
