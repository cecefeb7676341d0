use Rattle.wac_wit_refusals_worlds.specs.BroughtSteps.{AreIncludedWorlds}
use Rattle.wac_wit_refusals_sites.specs.Judging.{Judges}
use Rattle.wac_wit_scopes.specs.Scopes.{scope_syntax}
use Rattle.wac_wit_scopes.specs.WitSources.{WitSources}
use Rattle.wac_wit_refusals_worlds.proofs.worlds.worlds_included.Given as goal

abbrev pub invariant-loop-index : goal.invariant-loop-index
invariant-loop-index l = (of : WitSources) → Judges of l.judge → AreIncludedWorlds of (scope_syntax l.scope) l.items l.worlds.items
