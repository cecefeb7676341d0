use Rattle.wac_wit_refusals_worlds.specs.BroughtSteps.{AddsBrought}
use Rattle.wac_wit_scopes.specs.WitSources.{WitSources}
use Rattle.wac_wit_refusals_worlds.proofs.coming.push_renamed.Given as goal

abbrev pub invariant-loop-coming : goal.invariant-loop-coming
invariant-loop-coming l = (of : WitSources) → AddsBrought of l.included l.inside l.initial.names.items l.names.items
