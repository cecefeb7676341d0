use Rattle.wac_wit_scopes.specs.WitSources.{WitSources}
use Rattle.wac_wit_refusals_worlds.specs.IncludeSteps.{AreLacking, IsLacking}
use Rattle.wac_wit_refusals_sites.specs.Judging.{Judges}
use Rattle.wac_wit_refusals_worlds.proofs.sought_names.lacks_name.Given as goal

abbrev pub invariant-loop : goal.invariant-loop
invariant-loop l = (of : WitSources) → Judges of l.judge → AreLacking of l.all.items → IsLacking of l.sought
