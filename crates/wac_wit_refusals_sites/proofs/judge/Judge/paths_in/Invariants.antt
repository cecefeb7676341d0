use Rattle.wac_wit_scopes.specs.WitSources.{WitSources}
use Rattle.wac_wit_refusals_sites.specs.Judging.{Judges}
use Rattle.wac_wit_refusals_sites.specs.Leading.{AreKnownPaths}
use Rattle.wac_wit_refusals_sites.proofs.judge.Judge.paths_in.Given as goal

abbrev pub invariant-loop-scope : goal.invariant-loop-scope
invariant-loop-scope l = (of : WitSources) → Judges of l.self → AreKnownPaths of l.file l.paths.items
