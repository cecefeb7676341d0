use Rattle.wac_wit_scopes.specs.WitSources.{WitSources}
use Rattle.wac_wit_refusals_sites.specs.Judging.{Judges}
use Rattle.wac_wit_refusals_worlds.specs.NeededSteps.{AreExportsIn}
use Rattle.wac_wit_refusals_worlds.proofs.exports.exports_within.Given as goal

abbrev pub invariant-loop-inner : goal.invariant-loop-inner
invariant-loop-inner l = (of : WitSources) → Judges of l.judge → AreExportsIn of l.world l.exports.items
