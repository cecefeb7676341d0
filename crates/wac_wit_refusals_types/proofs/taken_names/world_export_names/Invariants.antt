use Rattle.wac_wit_refusals_sites.specs.Judging.{Judges}
use Rattle.wac_wit_refusals_types.specs.NamesTwice.{TakesExportName}
use Rattle.wac_wit_refusals_sites.specs.Sites.{world_items}
use Rattle.wac_wit_refusals_types.specs.TypeSteps.{AreTaken}
use Rattle.wac_wit_scopes.specs.WitSources.{WitSources}
use Rattle.wac_wit_refusals_types.proofs.taken_names.world_export_names.Given as goal

abbrev pub invariant-loop-index : goal.invariant-loop-index
invariant-loop-index l = (of : WitSources) → Judges of l.judge → AreTaken (TakesExportName of (world_items l.items)) l.names.items
