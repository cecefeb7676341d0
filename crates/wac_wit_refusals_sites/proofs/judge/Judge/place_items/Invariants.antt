use Rattle.wac_wit_scopes.specs.Scopes.{IsKnownScope}
use Rattle.wac_wit_scopes.specs.WitSources.{WitSources}
use Rattle.wac_wit_refusals_sites.specs.Judging.{Judges}
use Rattle.wac_wit_refusals_sites.specs.Leading.{AreKnownPaths}
use Rattle.wac_wit_refusals_sites.proofs.judge.Judge.place_items.Given as goal

abbrev pub invariant-loop-item : goal.invariant-loop-item
invariant-loop-item l = (of : WitSources) → Judges of l.self → IsKnownScope of l.scope → AreKnownPaths of l.scope.file l.initial.paths.items → AreKnownPaths of l.scope.file l.paths.items
