use Rattle.wac_wit_scopes.specs.WitSources.{WitSources}
use Rattle.wac_wit_refusals_sites.specs.Judging.{Judges}
use Rattle.wac_wit_refusals_worlds.specs.NeededSteps.{AreNeeded, one_of}
use Rattle.wac_wit_refusals_worlds.proofs.needed.needed_by.Given as goal

abbrev pub invariant-loop-export : goal.invariant-loop-export
invariant-loop-export l = (of : WitSources) → Judges of l.judge → AreNeeded of l.judge (one_of l.exports) l.needed.found.items
