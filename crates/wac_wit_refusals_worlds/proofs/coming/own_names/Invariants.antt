use Rattle.wac_wit_refusals_worlds.specs.BroughtSteps.{AreComing}
use Rattle.wac_wit_refusals_sites.specs.Judging.{Judges}
use Rattle.wac_wit_scopes.specs.WitSources.{ScopeSyntax, WitSources}
use Rattle.wac_wit_refusals_worlds.proofs.coming.own_names.Given as goal

abbrev pub invariant-loop-taken : goal.invariant-loop-taken
invariant-loop-taken l = (of : WitSources) → Judges of l.judge → (w : ScopeSyntax) → AreComing of l.exports w l.items l.names.items
