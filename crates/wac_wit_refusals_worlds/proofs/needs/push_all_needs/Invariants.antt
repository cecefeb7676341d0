use Rattle.wac_wit_scopes.specs.WitSources.{WitSources}
use Rattle.wac_wit_refusals_sites.specs.Judging.{Judges}
use Rattle.wac_wit_refusals_worlds.specs.NeededSteps.{AddsNeeded, Needing}
use Rattle.wac_wit_refusals_worlds.proofs.needs.push_all_needs.Given as goal

abbrev pub invariant-loop-index : goal.invariant-loop-index
invariant-loop-index l = (of : WitSources) → Judges of l.judge → (n : Needing) → AddsNeeded of l.judge n l.initial.needed l.needed
