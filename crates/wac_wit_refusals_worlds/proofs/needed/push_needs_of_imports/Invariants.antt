use Rattle.wac_wit_scopes.specs.WitSources.{WitSources}
use Rattle.wac_wit_refusals_sites.specs.Judging.{Judges}
use Rattle.wac_wit_refusals_worlds.specs.NeededSteps.{AddsImports, AreNeeded, some_of}
use Rattle.wac_wit_refusals_worlds.proofs.needed.push_needs_of_imports.Given as goal

abbrev pub invariant-loop-led : goal.invariant-loop-led
invariant-loop-led l = (of : WitSources) → Judges of l.judge → AreNeeded of l.judge (some_of l.exports) l.found → AddsImports of l.judge l.exports l.initial.imported l.imported
