use Rattle.wac_wit_scopes.specs.WitSources.{WitSources}
use Rattle.wac_wit_refusals_sites.specs.Judging.{Judges}
use Rattle.wac_wit_refusals_worlds.specs.NeededSteps.{AddsExportsOf}
use Rattle.wac_wit_refusals_worlds.proofs.exports.push_exports_of.Given as goal

abbrev pub invariant-loop-item : goal.invariant-loop-item
invariant-loop-item l = (of : WitSources) → Judges of l.judge → AddsExportsOf of l.world l.initial.exports.items l.exports.items
