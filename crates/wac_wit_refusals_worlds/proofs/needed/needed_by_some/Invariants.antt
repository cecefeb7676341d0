use Rattle.wac_wit_scopes.specs.WitSources.{WitSources}
use Rattle.wac_wit_refusals_sites.specs.Judging.{Judges}
use Rattle.wac_wit_refusals_worlds.specs.NeededSteps.{AreExports, AreNeeded, some_of}
use Rattle.wac_wit_refusals_worlds.proofs.needed.needed_by_some.Given as goal

abbrev pub invariant-loop-world : goal.invariant-loop-world
invariant-loop-world l = (of : WitSources) → Judges of l.judge → AreExports of l.exports → AreNeeded of l.judge (some_of l.exports) l.needed.found.items
