use Rattle.wac_wit_refusals_types.specs.Following.{IsNextName}
use Rattle.wac_wit_refusals_sites.specs.Judging.{Judges}
use Rattle.wac_wit_scopes.specs.Scopes.{IsKnownScope}
use Rattle.wac_wit_scopes.specs.WitSources.{WitSources}
use Rattle.wac_wit_refusals_types.proofs.handles.names_values.Given as goal

abbrev pub invariant-loop-step : goal.invariant-loop-step
invariant-loop-step l = (of : WitSources) → Judges of l.judge → IsKnownScope of l.first.placed.scope → IsNextName of l.first l.at
