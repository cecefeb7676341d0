use Rattle.wac_wit_scopes.specs.WitSources.{WitSources}
use Rattle.wac_wit_refusals_sites.specs.Judging.{Judges}
use Rattle.wac_wit_refusals_worlds.specs.NeededSteps.{AddsNeeded, Needing, NeedsExports}
use Rattle.wac_wit_refusals_worlds.proofs.needed.push_exports.Given as goal

abbrev pub invariant-loop-item : goal.invariant-loop-item
invariant-loop-item l = (of : WitSources) → Judges of l.judge → (n : Needing) → NeedsExports of l.judge n l.world → AddsNeeded of l.judge n l.initial.needed l.needed
