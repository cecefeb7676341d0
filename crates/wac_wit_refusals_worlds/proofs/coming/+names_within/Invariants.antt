use Rattle.wac_wit_refusals_worlds.specs.BroughtSteps.{AreComing}
use Rattle.wac_wit_refusals_sites.specs.Judging.{Judges}
use Rattle.wac_wit_scopes.specs.Scopes.{scope_syntax}
use Rattle.wac_wit_scopes.specs.WitSources.{WitSources}
use Rattle.wac_wit_refusals_worlds.proofs.coming.+names_within.Given as goal

-- how deep worlds are looked at gets less from one call to the next
abbrev pub decreases-names_within : goal.decreases-names_within
decreases-names_within l = l.depth

abbrev pub invariant-loop-included : goal.invariant-loop-included
invariant-loop-included l = (of : WitSources) → Judges of l.judge → AreComing of l.exports (scope_syntax l.scope) l.items l.names.items
