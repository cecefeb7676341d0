use Rattle.wac_wit_scopes.specs.WitSources.{WitSources}
use Rattle.wac_wit_refusals_sites.specs.Judging.{Judges}
use Rattle.wac_wit_refusals_worlds.specs.NeededSteps.{AddsNext, Needing}
use Rattle.wac_wit_refusals_worlds.proofs.needs.push_next.Given as goal

abbrev pub invariant-loop-path : goal.invariant-loop-path
invariant-loop-path l = (of : WitSources) → Judges of l.judge → (n : Needing) → AddsNext of l.judge n l.from l.initial.needed l.needed
