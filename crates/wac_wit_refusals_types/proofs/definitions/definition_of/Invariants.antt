use Rattle.wac_wit_refusals_types.specs.BorrowSteps.{IsDefinitionOf}
use Rattle.wac_wit_refusals_sites.specs.Judging.{Judges}
use Rattle.wac_wit_refusals_types.specs.declared.definitions.DefinitionSite.{DefinitionSite}
use Rattle.wac_wit_scopes.specs.WitSources.{WitSources}
use Rattle.wac_wit_refusals_types.proofs.definitions.definition_of.Given as goal

abbrev pub invariant-loop-step : goal.invariant-loop-step
invariant-loop-step l = (of : WitSources) → Judges of l.judge → (d : DefinitionSite) → IsDefinitionOf of l.at d → IsDefinitionOf of l.start d
